-- The types that are taken where an operand of a kind is wanted, and what is made of a place of such a type.
use Rattle.std.specs.Prelude.{Bool, false, not, ◌&&◌, ◌||◌, nat_lt, List, if◌then◌else◌}
use Rattle.lgx_num.specs.declared.place.Operand.{Operand}
use Rattle.lgx_num.specs.declared.place.Operand.TheVariants as operand
use Rattle.lgx_rung.specs.declared.operands.OperandKind.{OperandKind}
use Rattle.lgx_rung.specs.declared.operands.OperandKind.TheVariants.{BoolPlace, BoolOrFlag, IntegerPlace, IntegerOrNumber, WholeTimer, WholeCounter, TimerOrCounter, CopySource, CopyTarget, FillTarget}
use Rattle.spec_language.specs.declared.types.DataType.{DataType}
use Rattle.spec_language.specs.declared.types.TypeDecl.{TypeDecl}
use Rattle.spec_language.specs.declared.tag.Found.{Found}
use Rattle.spec_language.specs.Operands.{block_of, is_bool, is_counter, is_timer, path_of}
use Rattle.spec_language.specs.Resolution.{integer_bits, is_array, is_integer}

abbrev pub is_taken : OperandKind → DataType → Bool
is_taken BoolPlace t = is_bool t.base && not (is_array t)
is_taken BoolOrFlag t = is_bool t.base && not (is_array t)
is_taken IntegerPlace t = is_integer t && not (is_array t)
is_taken IntegerOrNumber t = is_integer t && not (is_array t)
is_taken WholeTimer t = is_timer t.base && not (is_array t)
is_taken WholeCounter t = is_counter t.base && not (is_array t)
is_taken TimerOrCounter t = (is_timer t.base || is_counter t.base) && not (is_array t)
is_taken CopySource t = not (is_bool t.base)
is_taken CopyTarget t = not (is_bool t.base)
is_taken FillTarget t = nat_lt 0 (integer_bits t.base)
is_taken _ t = false

abbrev pub operand_as : List TypeDecl → OperandKind → Found → Operand
operand_as types WholeTimer f = operand.Timer (path_of f)
operand_as types WholeCounter f = operand.Counter (path_of f)
operand_as types TimerOrCounter f = if is_timer f.of.base then operand.Timer (path_of f) else operand.Counter (path_of f)
operand_as types CopySource f = operand.Block (block_of types f)
operand_as types CopyTarget f = operand.Block (block_of types f)
operand_as types FillTarget f = operand.Block (block_of types f)
operand_as types _ f = operand.Cell (path_of f)
