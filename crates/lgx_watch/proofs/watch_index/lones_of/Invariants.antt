use Rattle.std.proofs.Common.{◌≡◌, length}
use Rattle.lgx_watch.specs.Index.{AreLone}
use Rattle.lgx_watch.proofs.watch_index.lones_of.Given as goal

abbrev pub invariant-loop-place : goal.invariant-loop-place
invariant-loop-place l = record {
  lone : AreLone l.rows l.lones.items;
  len : length l.lones.items ≡ length l.rows;
}
