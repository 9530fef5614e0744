-- Those before are the same.
use Rattle.std.proofs.Common.{◌≡◌, length, take}
use Rattle.lgx_edit.proofs.same_texts.same_rungs.Given as goal

abbrev pub invariant-loop-i : goal.invariant-loop-i
invariant-loop-i l = (length l.a ≡ length l.b) × (l.i-end ≡ length l.a) × (take l.i l.a ≡ take l.i l.b)
