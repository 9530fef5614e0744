-- The bits so far, and those of the operands that are left.
use Rattle.std.proofs.Common.{◌≡◌, ◌++◌, drop}
use Rattle.spec_uses.specs.Written.{those_of, first_bits}
use Rattle.lgx_xref.specs.Accesses.{is_chosen}
use Rattle.lgx_xref.proofs.bits.push_chosen.Given as goal

abbrev pub invariant-loop-i : goal.invariant-loop-i
invariant-loop-i l =
    l.bits.items ++ first_bits (those_of (is_chosen l.access l.op) (drop l.i l.kinds) (drop l.i l.operands))
    ≡ l.fn.bits.items ++ first_bits (those_of (is_chosen l.access l.op) l.kinds l.operands)
