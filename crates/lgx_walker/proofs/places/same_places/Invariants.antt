-- Those before are the same.
use Rattle.std.proofs.Common.{◌≡◌, length, take}
use Rattle.lgx_walker.proofs.places.same_places.Given as goal

abbrev pub invariant-loop-i : goal.invariant-loop-i
invariant-loop-i l = (length l.places ≡ length l.others) × (l.i-end ≡ length l.places) × (take l.i l.places ≡ take l.i l.others)
