use Rattle.std.proofs.Common.{◌≡◌, ◌<◌, ◌≤◌, ℕ}
use Rattle.std.specs.Prelude.{slice_index_or, nat_eq}
use Rattle.spec_schedule.specs.Counting.{Counted, counted}
use Rattle.spec_schedule.specs.Legal.{no_task}
use Rattle.lgx_audit.specs.Along.{shown, no_count}
use Rattle.lgx_audit.specs.Watching.{watch_at, watch_by}
use Rattle.lgx_audit.proofs.watch.watch_all.Given as goal

abbrev pub invariant-loop-t : goal.invariant-loop-t
invariant-loop-t l =
    ((k : ℕ) → k < l.t → (x : Counted) → slice_index_or l.counts k no_count ≡ shown x → watch_at l.watches k ≡ watch_by l.table l.e l.gives k (slice_index_or l.counts k no_count).up (nat_eq x.downs (counted (slice_index_or l.table.tasks k no_task) k l.e x).downs) (watch_at l.initial.watches k))
    × ((k : ℕ) → l.t ≤ k → watch_at l.watches k ≡ watch_at l.initial.watches k)
