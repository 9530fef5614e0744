-- Words of a line after its first.
use Rattle.std.specs.Prelude.{ℕ, List, [], ◌∷◌, ◌++◌}

-- each word after a space
abbrev pub after_spaces : List (List ℕ) → List ℕ
after_spaces [] = []
after_spaces (w ∷ ws) = (32 ∷ w) ++ after_spaces ws
