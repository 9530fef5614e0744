-- The pieces of a text between marks. Each mark of a text is one byte.
use Rattle.std.specs.Prelude.{ℕ, List, [], ◌∷◌, Bool, true, false, nat_eq}
use Rattle.std.specs.List.{list_any}

-- what comes before, between and behind the marks of a text
abbrev pub cut : Bool → ℕ → List (List ℕ) → List (List ℕ)
cut true c ps = [] ∷ ps
cut false c [] = (c ∷ []) ∷ []
cut false c (p ∷ ps) = (c ∷ p) ∷ ps

abbrev pub pieces : ℕ → List ℕ → List (List ℕ)
pieces mark [] = [] ∷ []
pieces mark (c ∷ cs) = cut (nat_eq c mark) c (pieces mark cs)

abbrev pub is_empty : List ℕ → Bool
is_empty [] = true
is_empty (c ∷ cs) = false

-- whether a mark is in a text
abbrev pub has_byte : ℕ → List ℕ → Bool
has_byte mark text = list_any (λ c. nat_eq c mark) text
