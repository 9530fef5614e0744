-- Those before are the same.
use Rattle.std.proofs.Common.{◌≡◌, length, take}
use Rattle.lgx_walker.proofs.walker.same_numbers.Given as goal

abbrev pub invariant-loop-i : goal.invariant-loop-i
invariant-loop-i l = (length l.numbers ≡ length l.others) × (l.i-end ≡ length l.numbers) × (take l.i l.numbers ≡ take l.i l.others)
