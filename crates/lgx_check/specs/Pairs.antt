-- Operands beside the kinds that are wanted in their places.
use Rattle.std.specs.Prelude.{ℕ, ◌==◌, if◌then◌else◌, List, length, Option, Some, None}
use Rattle.std.specs.List.{zip}
use Rattle.lgx_rung.specs.declared.operands.OperandKind.{OperandKind}

-- each text with what is wanted there, unless there are more texts or fewer
abbrev pub in_pairs : List OperandKind → List (List ℕ) → Option (List (OperandKind × List ℕ))
in_pairs kinds texts = if length kinds == length texts then Some (zip kinds texts) else None
