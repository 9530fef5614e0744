use Rattle.std.proofs.Common.{◌≡◌, ◌<◌, ℕ, false}
use Rattle.std.specs.Prelude.{slice_index_or}
use Rattle.lgx_audit.specs.Along.{no_count}
use Rattle.lgx_audit.proofs.priority.any_up.Given as goal

abbrev pub invariant-loop-count : goal.invariant-loop-count
invariant-loop-count l = (k : ℕ) → k < l.count-index → (slice_index_or l.counts k no_count).up ≡ false
