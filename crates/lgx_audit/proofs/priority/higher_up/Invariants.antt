use Rattle.std.proofs.Common.{◌≡◌, ◌<◌, ℕ, false}
use Rattle.std.specs.Prelude.{slice_index_or, ◌&&◌, nat_lt}
use Rattle.spec_schedule.specs.Legal.{no_task}
use Rattle.lgx_audit.specs.Along.{no_count}
use Rattle.lgx_audit.proofs.priority.higher_up.Given as goal

abbrev pub invariant-loop-t : goal.invariant-loop-t
invariant-loop-t l =
    (k : ℕ) → k < l.t → ((slice_index_or l.counts k no_count).up && nat_lt (slice_index_or l.tasks k no_task).priority l.below) ≡ false
