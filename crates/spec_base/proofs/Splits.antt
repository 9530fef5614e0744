-- The first piece of a text, and what stands about the first mark.
use Rattle.std.proofs.Common.{◌≡◌, ◌≢◌, ℕ, zero, suc, ◌+◌, ◌<◌, ◌≤◌, List, [], ◌∷◌, ◌++◌, length, get_or, take, drop, Bool, true, false, ◌||◌, nat_eq, refl, ap, ◌∙◌, add-one, arith}
use Rattle.std.proofs.lemmas.Bool.Decides.{nat_tests}
use Rattle.spec_base.specs.Pieces.{pieces, cut, has_byte}

-- no mark stands before that place
abbrev pub NoMark : ℕ → List ℕ → ℕ → Type 0
NoMark mark text i = (k : ℕ) → k < i → get_or text k 0 ≢ mark

here : (mark c : ℕ) (cs : List ℕ) → c ≡ mark → pieces mark (c ∷ cs) ≡ [] ∷ pieces mark cs
here mark c cs e = grind (arith, nat_tests)

past : (mark c : ℕ) (cs : List ℕ) → c ≢ mark → pieces mark (c ∷ cs) ≡ cut false c (pieces mark cs)
past mark c cs e = grind (arith, nat_tests)

pieces_at : (mark : ℕ) (text : List ℕ) (i : ℕ) → NoMark mark text i → i < length text → get_or text i 0 ≡ mark → pieces mark text ≡ take i text ∷ pieces mark (drop (suc i) text)
pieces_at mark [] i none inside is = absurd (omega arith)
pieces_at mark (c ∷ cs) zero none inside is = here mark c cs is
pieces_at mark (c ∷ cs) (suc i) none inside is =
    past mark c cs (none 0 (omega arith)) ∙ ap (cut false c) (pieces_at mark cs i (λ k h. none (suc k) (omega arith)) (omega arith) is)

pub pieces_whole : (mark : ℕ) (text : List ℕ) → NoMark mark text (length text) → pieces mark text ≡ text ∷ []
pieces_whole mark [] none = refl
pieces_whole mark (c ∷ cs) none =
    past mark c cs (none 0 (omega arith)) ∙ ap (cut false c) (pieces_whole mark cs (λ k h. none (suc k) (omega arith)))

pub pieces_at_mark : (mark : ℕ) (text : List ℕ) (i : ℕ) → NoMark mark text i → i < length text → get_or text i 0 ≡ mark → pieces mark text ≡ take i text ∷ pieces mark (drop (i + 1) text)
pieces_at_mark mark text i none inside is = rw add-one (pieces_at mark text i none inside is)

-- no mark stands before the first
clean_at : (mark c : ℕ) (b rest : Bool) → nat_eq c mark ≡ b → c ≢ mark → rest ≡ false → (nat_eq c mark || rest) ≡ false
clean_at mark c b rest e h f = grind (arith, nat_tests)

pub clean_before : (mark : ℕ) (text : List ℕ) (i : ℕ) → NoMark mark text i → i ≤ length text → has_byte mark (take i text) ≡ false
clean_before mark text zero none inside = refl
clean_before mark [] (suc i) none inside = refl
clean_before mark (c ∷ cs) (suc i) none inside =
    clean_at mark c (nat_eq c mark) (has_byte mark (take i cs)) refl (none 0 (omega arith)) (clean_before mark cs i (λ k h. none (suc k) (omega arith)) (omega arith))

pub clean_whole : (mark : ℕ) (text : List ℕ) → NoMark mark text (length text) → has_byte mark text ≡ false
clean_whole mark [] none = refl
clean_whole mark (c ∷ cs) none =
    clean_at mark c (nat_eq c mark) (has_byte mark cs) refl (none 0 (omega arith)) (clean_whole mark cs (λ k h. none (suc k) (omega arith)))

-- what stands before it, the mark, and what stands after it
cut_at : (mark : ℕ) (text : List ℕ) (i : ℕ) → i < length text → get_or text i 0 ≡ mark → text ≡ take i text ++ mark ∷ drop (suc i) text
cut_at mark [] i inside is = absurd (omega arith)
cut_at mark (c ∷ cs) zero inside is = ap (λ x. x ∷ cs) is
cut_at mark (c ∷ cs) (suc i) inside is = ap (λ xs. c ∷ xs) (cut_at mark cs i (omega arith) is)

pub cut_at_mark : (mark : ℕ) (text : List ℕ) (i : ℕ) → i < length text → get_or text i 0 ≡ mark → text ≡ take i text ++ mark ∷ drop (i + 1) text
cut_at_mark mark text i inside is = rw add-one (cut_at mark text i inside is)

-- a text has a piece
pub some_piece : (mark : ℕ) (text : List ℕ) → (p : List ℕ) × (ps : List (List ℕ)) × (pieces mark text ≡ p ∷ ps)
some_piece mark [] = ([], [], refl)
some_piece mark (c ∷ cs) = go (nat_eq c mark) (pieces mark cs)
  where
    go : (b : Bool) (qs : List (List ℕ)) → (p : List ℕ) × (ps : List (List ℕ)) × (cut b c qs ≡ p ∷ ps)
    go true qs = ([], qs, refl)
    go false [] = (c ∷ [], [], refl)
    go false (q ∷ qs) = (c ∷ q, qs, refl)
