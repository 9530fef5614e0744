use Rattle.std.proofs.Common.{◌≡◌, length}
use Rattle.spec_scan.specs.Arguments.{value_of}
use Rattle.lgx_engine.proofs.Told.{Told}
use Rattle.lgx_engine.proofs.handing.numbers_of.Given as goal

abbrev pub invariant-loop-operand : goal.invariant-loop-operand
invariant-loop-operand l = (length l.numbers.items ≡ l.operand-index) × Told (value_of l.image.bytes) l.image.bytes l.operands l.numbers.items l.operand-index
