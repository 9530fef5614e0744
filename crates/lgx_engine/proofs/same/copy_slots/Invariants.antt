-- Those before are the same.
use Rattle.std.proofs.Common.{◌≡◌, length, take}
use Rattle.lgx_engine.proofs.same.copy_slots.Given as goal

abbrev pub invariant-loop-i : goal.invariant-loop-i
invariant-loop-i l = (length l.into ≡ length l.initial.into) × (take l.i l.into ≡ take l.i l.from)
