-- What tokens give, part by part.
use Rattle.std.specs.Prelude.{◌≡◌, ℕ, Bool, true, false, ◌==◌, List, [], ◌∷◌, Option, Some, None, if◌then◌else◌, refl}
use Rattle.std.proofs.Common.{◌∙◌}
use Rattle.spec_language.specs.OperandForm.{are_digits, Token, word, dot, opening, closing, put_byte, tokens}
use Rattle.lgx_tags.specs.Parts.{OperandPart, element, opened, closed, first_part, over_parts}

-- at the end of the tokens, or not
abbrev ended : {S R : Type 0} → (S → R) → (S → R) → List Token → S → R
ended end bad [] s = end s
ended end bad _ s = bad s

abbrev on_first : {S R : Type 0} → (OperandPart → (S → R) → S → R) → (S → R) → (S → R) → Option (OperandPart × List Token) → R → S → R
on_first step end bad None last s = last
on_first step end bad (Some (p, rest)) last s = step p (over_parts step end bad rest) s

-- a bracket and a word that no bracket follows
begun_part : {S R : Type 0} (step : OperandPart → (S → R) → S → R) (end bad : S → R) (w : List ℕ) (ts : List Token) (s : S) (b : Bool) → (if b then bad s else step (opened w) (over_parts step end bad ts) s) ≡ on_first step end bad (if b then None else Some (opened w, ts)) (bad s) s
begun_part step end bad w ts s true = refl
begun_part step end bad w ts s false = refl

by_part : {S R : Type 0} (step : OperandPart → (S → R) → S → R) (end bad : S → R) (ts : List Token) (s : S) → over_parts step end bad ts s ≡ on_first step end bad (first_part ts) (ended end bad ts s) s
by_part step end bad [] s = refl
by_part step end bad (word w ∷ ts) s = refl
by_part step end bad (dot ∷ []) s = refl
by_part step end bad (dot ∷ word w ∷ ts) s = refl
by_part step end bad (dot ∷ dot ∷ ts) s = refl
by_part step end bad (dot ∷ opening ∷ ts) s = refl
by_part step end bad (dot ∷ closing ∷ ts) s = refl
by_part step end bad (opening ∷ []) s = refl
by_part step end bad (opening ∷ dot ∷ ts) s = refl
by_part step end bad (opening ∷ opening ∷ ts) s = refl
by_part step end bad (opening ∷ closing ∷ ts) s = refl
by_part step end bad (opening ∷ word w ∷ closing ∷ ts) s = go (are_digits 10 w)
  where
    go : (b : Bool) → (if b then step (element w) (over_parts step end bad ts) s else step (opened w) (step closed (over_parts step end bad ts)) s) ≡ on_first step end bad (if b then Some (element w, ts) else Some (opened w, closing ∷ ts)) (bad s) s
    go true = refl
    go false = refl
by_part step end bad (opening ∷ word w ∷ []) s = begun_part step end bad w [] s (are_digits 10 w)
by_part step end bad (opening ∷ word w ∷ word v ∷ ts) s = begun_part step end bad w (word v ∷ ts) s (are_digits 10 w)
by_part step end bad (opening ∷ word w ∷ dot ∷ ts) s = begun_part step end bad w (dot ∷ ts) s (are_digits 10 w)
by_part step end bad (opening ∷ word w ∷ opening ∷ ts) s = begun_part step end bad w (opening ∷ ts) s (are_digits 10 w)
by_part step end bad (closing ∷ ts) s = refl

-- where a part stands
pub part_taken : {S R : Type 0} (step : OperandPart → (S → R) → S → R) (end bad : S → R) (ts rest : List Token) (s : S) (p : OperandPart) → first_part ts ≡ Some (p, rest) → over_parts step end bad ts s ≡ step p (over_parts step end bad rest) s
part_taken step end bad ts rest s p e = by_part step end bad ts s ∙ rw e refl

some_tokens : {S R : Type 0} (end bad : S → R) (c : ℕ) (cs : List ℕ) (s : S) → ended end bad (tokens (c ∷ cs)) s ≡ bad s
some_tokens end bad c cs s = go (c == 46) (c == 91) (c == 93) (tokens cs)
  where
    go : (x y z : Bool) (ts : List Token) → ended end bad (if x then dot ∷ ts else if y then opening ∷ ts else if z then closing ∷ ts else put_byte c ts) s ≡ bad s
    go true y z ts = refl
    go false true z ts = refl
    go false false true ts = refl
    go false false false [] = refl
    go false false false (word w ∷ ts) = refl
    go false false false (dot ∷ ts) = refl
    go false false false (opening ∷ ts) = refl
    go false false false (closing ∷ ts) = refl

-- a text that isn't at its end and begins with no part
pub no_part : {S R : Type 0} (step : OperandPart → (S → R) → S → R) (end bad : S → R) (c : ℕ) (cs : List ℕ) (s : S) → first_part (tokens (c ∷ cs)) ≡ None → over_parts step end bad (tokens (c ∷ cs)) s ≡ bad s
no_part step end bad c cs s e = by_part step end bad (tokens (c ∷ cs)) s ∙ rw e (some_tokens end bad c cs s)
