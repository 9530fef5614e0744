use Rattle.std.proofs.Common.{◌≡◌, ◌<◌, ℕ, false}
use Rattle.std.specs.Prelude.{slice_index_or, ◌&&◌, not, nat_eq}
use Rattle.lgx_audit.specs.Along.{no_count}
use Rattle.lgx_laws.proofs.Enumerated.{opens}
use Rattle.lgx_laws.proofs.regions.another_open.Given as goal

abbrev pub invariant-loop-u : goal.invariant-loop-u
invariant-loop-u l = (k : ℕ) → k < l.u → (opens (slice_index_or l.counts k no_count) && not (nat_eq k l.t)) ≡ false
