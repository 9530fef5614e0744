use Rattle.std.proofs.Common.{◌≡◌, ℕ, ◌<◌, false}
use Rattle.lgx_cover.specs.Counts.{is_version}
use Rattle.lgx_cover.specs.Tables.{version_at}
use Rattle.lgx_cover.proofs.tables.Tables.find.Given as goal

abbrev pub invariant-loop-k : goal.invariant-loop-k
invariant-loop-k l = record {
  none : (i : ℕ) → i < l.k → is_version (version_at l.self.tables.items i) l.version ≡ false;
}
