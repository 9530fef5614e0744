-- The slots before the index are freed or as they were, and the others are as they were.
use Rattle.std.proofs.Common.{◌≡◌, ℕ, ◌<◌, ◌≤◌, cond, length, None}
use Rattle.lgx_versions.specs.Slots.{uses, in_slot}
use Rattle.lgx_versions.proofs.slots.free_unused.Given as goal

abbrev pub invariant-loop-i : goal.invariant-loop-i
invariant-loop-i l =
    ((k : ℕ) → k < l.i → in_slot l.slots k ≡ cond (uses l.places k) (in_slot l.fn.slots k) None)
    × ((k : ℕ) → l.i ≤ k → in_slot l.slots k ≡ in_slot l.fn.slots k)
    × (length l.slots ≡ length l.fn.slots)
