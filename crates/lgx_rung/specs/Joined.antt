-- The operands of an instruction in one text, with a comma between two.
use Rattle.std.specs.Prelude.{ℕ, List, [], ◌∷◌}
use Rattle.spec_base.specs.Pieces.{pieces}

-- what stands between the commas; in no text there is no operand
abbrev pub operands_in : List ℕ → List (List ℕ)
operands_in [] = []
operands_in (b ∷ bs) = pieces 44 (b ∷ bs)
