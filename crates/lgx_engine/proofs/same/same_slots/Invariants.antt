-- Those before are the same.
use Rattle.std.proofs.Common.{◌≡◌, take}
use Rattle.lgx_engine.proofs.same.same_slots.Given as goal

abbrev pub invariant-loop-i : goal.invariant-loop-i
invariant-loop-i l = (take l.i l.a ≡ take l.i l.b)
