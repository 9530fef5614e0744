use Rattle.std.proofs.Common.{◌≡◌, ◌+◌, ◌<◌, ◌≤◌, ℕ}
use Rattle.std.specs.Prelude.{slice_index_or}
use Rattle.spec_schedule.specs.Counting.{Counted, counted}
use Rattle.spec_schedule.specs.Legal.{no_task}
use Rattle.lgx_audit.specs.Along.{shown, no_count}
use Rattle.lgx_audit.proofs.counts.count_all.Given as goal

-- the tasks before t have their new counts, the others their old ones
abbrev pub invariant-loop-t : goal.invariant-loop-t
invariant-loop-t l =
    ((k : ℕ) → k < l.t → (x : Counted) → slice_index_or l.initial.counts k no_count ≡ shown x → slice_index_or l.counts k no_count ≡ shown (counted (slice_index_or l.tasks k no_task) k l.e x))
    × ((k : ℕ) → k < l.t → (slice_index_or l.counts k no_count).regions ≤ (slice_index_or l.initial.counts k no_count).regions + 1)
    × ((k : ℕ) → k < l.t → (slice_index_or l.counts k no_count).downs ≤ (slice_index_or l.initial.counts k no_count).downs + 1)
    × ((k : ℕ) → l.t ≤ k → slice_index_or l.counts k no_count ≡ slice_index_or l.initial.counts k no_count)
