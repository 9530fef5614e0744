-- The operands of a checked instruction, as they are held.
use Rattle.std.specs.Prelude.{List, [], ◌∷◌}
use Rattle.lgx_num.specs.declared.place.Operand.{Operand}
use Rattle.lgx_rung.specs.declared.args.Few.{Few}
use Rattle.lgx_rung.specs.declared.args.Few.TheVariants.{One, Others}

abbrev pub operands_of : Few → List Operand
operands_of (One operand) = operand ∷ []
operands_of (Others list) = list.items
