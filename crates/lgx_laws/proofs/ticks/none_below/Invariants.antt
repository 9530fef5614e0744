use Rattle.std.proofs.Common.{◌≡◌, ◌+◌, ◌<◌, ◌&&◌, ℕ, false, nat_le}
use Rattle.std.specs.Prelude.{slice_index_or}
use Rattle.spec_tables.specs.Tasks.{no_task}
use Rattle.lgx_audit.specs.Along.{no_count}
use Rattle.lgx_laws.specs.Kept.{no_since}
use Rattle.lgx_laws.proofs.ticks.none_below.Given as goal

abbrev pub invariant-loop-t : goal.invariant-loop-t
invariant-loop-t l = (k : ℕ) → k < l.t → ((slice_index_or l.counts k no_count).up && nat_le (slice_index_or l.tasks k no_task).watchdog ((slice_index_or l.kept k no_since).ticks + 1)) ≡ false
