-- The bits so far, and those of the subscripts of the operands that are left.
use Rattle.std.proofs.Common.{◌≡◌, ◌++◌, drop}
use Rattle.spec_uses.specs.Written.{subscript_bits}
use Rattle.lgx_xref.proofs.bits.bits_read.Given as goal

abbrev pub invariant-loop-operand : goal.invariant-loop-operand
invariant-loop-operand l =
    l.bits.items ++ subscript_bits (drop l.operand-index l.operand-items)
    ≡ l.initial.bits.items ++ subscript_bits l.operand-items
