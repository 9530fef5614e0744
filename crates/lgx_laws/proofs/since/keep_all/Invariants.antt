use Rattle.std.proofs.Common.{◌≡◌, ◌+◌, ◌<◌, ◌≤◌, ℕ}
use Rattle.std.specs.Prelude.{slice_index_or, nat_eq, ◌&&◌}
use Rattle.spec_schedule.specs.Counting.{Counted, counted}
use Rattle.spec_schedule.specs.Legal.{no_task}
use Rattle.lgx_audit.specs.Along.{shown, no_count}
use Rattle.lgx_laws.specs.Kept.{no_since}
use Rattle.lgx_laws.proofs.KeptOn.{kept_if}
use Rattle.lgx_laws.proofs.since.keep_all.Given as goal

-- of the tasks before t it is that after the event, of the others that before it
abbrev pub invariant-loop-t : goal.invariant-loop-t
invariant-loop-t l =
    ((k : ℕ) → k < l.t → (x : Counted) → slice_index_or l.counts k no_count ≡ shown x → slice_index_or l.kept k no_since ≡ kept_if k l.e (x.up && nat_eq x.downs (counted (slice_index_or l.tasks k no_task) k l.e x).downs) (slice_index_or l.initial.kept k no_since))
    × ((k : ℕ) → k < l.t → (slice_index_or l.kept k no_since).ticks ≤ (slice_index_or l.initial.kept k no_since).ticks + 1)
    × ((k : ℕ) → l.t ≤ k → slice_index_or l.kept k no_since ≡ slice_index_or l.initial.kept k no_since)
