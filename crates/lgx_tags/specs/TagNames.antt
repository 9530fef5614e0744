-- The parts of a tag name after its first colon.
use Rattle.std.specs.Prelude.{ℕ, zero, suc, Bool, false, ◌&&◌, List, [], ◌∷◌}
use Rattle.spec_language.specs.OperandForm.{is_part}

-- one part or more, at most the given number
abbrev pub are_parts : ℕ → List (List ℕ) → Bool
are_parts zero ps = false
are_parts (suc most) [] = false
are_parts (suc most) (p ∷ []) = is_part p
are_parts (suc most) (p ∷ q ∷ ps) = is_part p && are_parts most (q ∷ ps)
