-- Those before are copied.
use Rattle.std.proofs.Common.{◌≡◌, take}
use Rattle.lgx_edit.proofs.same.routines_again.Given as goal

abbrev pub invariant-loop-routine : goal.invariant-loop-routine
invariant-loop-routine l = l.list.items ≡ take l.routine-index l.routines
