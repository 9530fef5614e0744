-- Whether a text is an operand form, part by part.
use Rattle.std.specs.Prelude.{◌≡◌, ℕ, zero, suc, ◌+◌, ◌-◌, ◌<◌, ◌≤◌, Bool, true, false, not, ◌||◌, ◌==◌, List, [], ◌∷◌, length, Some, None, option_and_then, if◌then◌else◌, refl}
use Rattle.std.specs.Option.{is_some}
use Rattle.std.proofs.Common.{sym, ap, subst, arith, add-one}
use Rattle.std.proofs.lemmas.Bool.Decides.{nat_tests}
use Rattle.lgx_num.specs.Name.{is_name}
use Rattle.spec_language.specs.OperandForm.{is_tag_name, are_digits, digits_number, Form, tag, member, element, indexed, bit, is_bit, Token, word, dot, opening, closing, put_byte, tokens, dotted, bracketed, begun, form_from, form_of, form}
use Rattle.lgx_tags.proofs.TagNames.{no_digits}
use Rattle.lgx_tags.specs.declared.form.FormState.{FormState}
use Rattle.lgx_tags.specs.Parts.{OperandPart, first_part, begins_marked, with_word}
use Rattle.lgx_tags.specs.Parts as part
use Rattle.lgx_tags.specs.FormStates.{closed_from, state_after, then_on, form_step, completes}
use Rattle.lgx_tags.proofs.PartSteps.{part_taken, no_part}

-- ---- one part

pub closed_some : (depth : ℕ) → 0 < depth → closed_from depth ≡ Some (record { depth = depth - 1; bit = false })
closed_some zero p = absurd (omega arith)
closed_some (suc depth) p = let one : suc depth - 1 ≡ depth = omega arith in rw one refl

pub closed_none : (depth : ℕ) → depth ≡ 0 → closed_from depth ≡ None
closed_none depth p = rw p refl

pub on_part : (ts rest : List Token) (s : FormState) (p : OperandPart) → first_part ts ≡ Some (p, rest) → completes ts s ≡ then_on (completes rest) (state_after s p)
on_part ts rest s p e = part_taken form_step (λ s. s.depth == 0) (λ s. false) ts rest s p e

pub at_end : (text : List ℕ) (s : FormState) → first_part (tokens text) ≡ None → length text ≡ 0 → completes (tokens text) s ≡ (s.depth == 0)
at_end [] s e p = refl
at_end (c ∷ cs) s e p = absurd (omega arith)

pub not_end : (text : List ℕ) (s : FormState) → first_part (tokens text) ≡ None → 0 < length text → completes (tokens text) s ≡ false
not_end [] s e p = absurd (omega arith)
not_end (c ∷ cs) s e p = no_part form_step (λ s. s.depth == 0) (λ s. false) c cs s e

-- ---- the whole

abbrev state_of : List Form → Form → FormState
state_of outer f = record { depth = length outer; bit = is_bit f }

after_dot : (ts : List Token) (outer : List Form) (f : Form) (w : List ℕ) → ((g : Form) → is_some (form_from ts outer g) ≡ completes ts (state_of outer g)) → is_some (option_and_then (form_from ts outer) (dotted f w)) ≡ then_on (completes ts) (state_after (state_of outer f) (part.dotted w))
after_dot ts outer f w known = go (is_bit f) refl (is_name w) (are_digits 10 w)
  where
    go : (a : Bool) → is_bit f ≡ a → (b d : Bool) → is_some (option_and_then (form_from ts outer) (if a then None else if b then Some (member f w) else if d then Some (bit f (digits_number 10 w)) else None)) ≡ then_on (completes ts) (if a then None else if b then Some (record { depth = length outer; bit = is_bit f }) else if d then Some (record { depth = length outer; bit = true }) else None)
    go true e b d = refl
    go false e true d = rw e (known (member f w))
    go false e false true = known (bit f (digits_number 10 w))
    go false e false false = refl

after_word : (ts : List Token) (outer : List Form) (f : Form) (w : List ℕ) → ((g : Form) → is_some (form_from ts (f ∷ outer) g) ≡ completes ts (state_of (f ∷ outer) g)) → is_some (option_and_then (form_from ts (f ∷ outer)) (begun f w)) ≡ (if are_digits 10 w then false else then_on (completes ts) (state_after (state_of outer f) (part.opened w)))
after_word ts outer f w known = go (is_bit f) refl (are_digits 10 w) refl (is_tag_name w) refl
  where
    go : (a : Bool) → is_bit f ≡ a → (b : Bool) → are_digits 10 w ≡ b → (d : Bool) → is_tag_name w ≡ d → is_some (option_and_then (form_from ts (f ∷ outer)) (if a || not d then None else Some (tag w))) ≡ (if b then false else then_on (completes ts) (if a then None else if d then Some (record { depth = length outer + 1; bit = is_bit f }) else None))
    go true e true h d i = refl
    go true e false h d i = refl
    go false e true h true i = absurd (cc (i, no_digits w h))
    go false e true h false i = refl
    go false e false h true i = let one : length outer + 1 ≡ suc (length outer) = add-one (length outer) in rw (e, one) (known (tag w))
    go false e false h false i = refl

in_brackets : (ts : List Token) (outer : List Form) (f : Form) (w : List ℕ) → ((g : Form) → is_some (form_from ts outer g) ≡ completes ts (state_of outer g)) → is_some (option_and_then (form_from ts outer) (bracketed f w)) ≡ completes (opening ∷ word w ∷ closing ∷ ts) (state_of outer f)
in_brackets ts outer f w known = go (is_bit f) refl (are_digits 10 w) (is_tag_name w)
  where
    go : (a : Bool) → is_bit f ≡ a → (b d : Bool) → is_some (option_and_then (form_from ts outer) (if a then None else if b then Some (element f (digits_number 10 w)) else if d then Some (indexed f (tag w)) else None)) ≡ (if b then then_on (completes ts) (if a then None else Some (record { depth = length outer; bit = is_bit f })) else then_on (λ t. then_on (completes ts) (state_after t part.closed)) (if a then None else if d then Some (record { depth = length outer + 1; bit = is_bit f }) else None))
    go true e true d = refl
    go true e false d = refl
    go false e true d = rw e (known (element f (digits_number 10 w)))
    go false e false true = let one : length outer + 1 ≡ suc (length outer) = add-one (length outer) in rw one (known (indexed f (tag w)))
    go false e false false = refl

pub form_completes : (ts : List Token) (outer : List Form) (f : Form) → is_some (form_from ts outer f) ≡ completes ts (state_of outer f)
form_completes [] [] f = refl
form_completes [] (g ∷ outer) f = let open_one : (suc (length outer) == 0) ≡ false = grind (arith, nat_tests) in rw open_one refl
form_completes (word w ∷ ts) outer f = refl
form_completes (dot ∷ []) outer f = refl
form_completes (dot ∷ dot ∷ ts) outer f = refl
form_completes (dot ∷ opening ∷ ts) outer f = refl
form_completes (dot ∷ closing ∷ ts) outer f = refl
form_completes (dot ∷ word w ∷ ts) outer f = after_dot ts outer f w (λ g. form_completes ts outer g)
form_completes (opening ∷ []) outer f = refl
form_completes (opening ∷ dot ∷ ts) outer f = refl
form_completes (opening ∷ opening ∷ ts) outer f = refl
form_completes (opening ∷ closing ∷ ts) outer f = refl
form_completes (opening ∷ word w ∷ closing ∷ ts) outer f = in_brackets ts outer f w (λ g. form_completes ts outer g)
form_completes (opening ∷ word w ∷ []) outer f = after_word [] outer f w (λ g. form_completes [] (f ∷ outer) g)
form_completes (opening ∷ word w ∷ word v ∷ ts) outer f = after_word (word v ∷ ts) outer f w (λ g. form_completes (word v ∷ ts) (f ∷ outer) g)
form_completes (opening ∷ word w ∷ dot ∷ ts) outer f = after_word (dot ∷ ts) outer f w (λ g. form_completes (dot ∷ ts) (f ∷ outer) g)
form_completes (opening ∷ word w ∷ opening ∷ ts) outer f = after_word (opening ∷ ts) outer f w (λ g. form_completes (opening ∷ ts) (f ∷ outer) g)
form_completes (closing ∷ ts) [] f = refl
form_completes (closing ∷ ts) (g ∷ outer) f = form_completes ts outer (indexed g f)

-- a text whose first word is a tag name, and one whose first word isn't
pub form_named : (text name rest : List ℕ) → tokens text ≡ with_word name (tokens rest) → is_tag_name name ≡ true → is_some (form text) ≡ completes (tokens rest) (record { depth = 0; bit = false })
form_named text [] rest e p = absurd (cc p)
form_named text (c ∷ cs) rest e p = subst (λ (ts : List Token). is_some (form_of ts) ≡ completes (tokens rest) (record { depth = 0; bit = false })) (sym e) (rw p (form_completes (tokens rest) [] (tag (c ∷ cs))))

pub form_unnamed : (text name rest : List ℕ) → tokens text ≡ with_word name (tokens rest) → begins_marked rest ≡ true → is_tag_name name ≡ false → is_some (form text) ≡ false
form_unnamed text (c ∷ cs) rest e m p = subst (λ (ts : List Token). is_some (form_of ts) ≡ false) (sym e) (rw p refl)
form_unnamed text [] rest e m p = subst (λ (ts : List Token). is_some (form_of ts) ≡ false) (sym e) (none rest m)
  where
    none : (t : List ℕ) → begins_marked t ≡ true → is_some (form_of (tokens t)) ≡ false
    none [] h = refl
    none (d ∷ ds) h = go (d == 46) (d == 91) (d == 93) h
      where
        go : (x y z : Bool) → (x || y || z) ≡ true → is_some (form_of (if x then dot ∷ tokens ds else if y then opening ∷ tokens ds else if z then closing ∷ tokens ds else put_byte d (tokens ds))) ≡ false
        go true y z q = refl
        go false true z q = refl
        go false false true q = refl
        go false false false q = absurd (cc q)

-- ---- depths

-- a part opens one bracket at most
pub depth_grows : (s t : FormState) (p : OperandPart) → state_after s p ≡ Some t → t.depth ≤ s.depth + 1
depth_grows s t part.closed e = go s.depth e
  where
    go : (d : ℕ) → closed_from d ≡ Some t → t.depth ≤ d + 1
    go zero q = absurd (cc q)
    go (suc d) q = let same : record { depth = d; bit = false } ≡ t = cc q in omega (arith, ap (λ (k : FormState). k.depth) same)
depth_grows s t (part.element w) e = go s.bit e
  where
    go : (b : Bool) → (if b then None else Some s) ≡ Some t → t.depth ≤ s.depth + 1
    go true q = absurd (cc q)
    go false q = let same : s ≡ t = cc q in omega (arith, ap (λ (k : FormState). k.depth) same)
depth_grows s t (part.dotted w) e = go s.bit (is_name w) (are_digits 10 w) e
  where
    go : (a b d : Bool) → (if a then None else if b then Some s else if d then Some (record s { bit = true }) else None) ≡ Some t → t.depth ≤ s.depth + 1
    go true b d q = absurd (cc q)
    go false true d q = let same : s ≡ t = cc q in omega (arith, ap (λ (k : FormState). k.depth) same)
    go false false true q = let same : record s { bit = true } ≡ t = cc q in omega (arith, ap (λ (k : FormState). k.depth) same)
    go false false false q = absurd (cc q)
depth_grows s t (part.opened w) e = go s.bit (is_tag_name w) e
  where
    go : (a b : Bool) → (if a then None else if b then Some (record s { depth = s.depth + 1 }) else None) ≡ Some t → t.depth ≤ s.depth + 1
    go true b q = absurd (cc q)
    go false true q = let same : record s { depth = s.depth + 1 } ≡ t = cc q in omega (arith, ap (λ (k : FormState). k.depth) same)
    go false false q = absurd (cc q)
