use Rattle.std.proofs.Common.{◌≡◌, length}
use Rattle.lgx_watch.specs.Index.{AreLone}
use Rattle.lgx_watch.proofs.watch_index.note_lones.Given as goal

abbrev pub invariant-loop-word : goal.invariant-loop-word
invariant-loop-word l = record {
  lone : AreLone l.rows l.lones;
  len : length l.lones ≡ length l.fn.lones;
}
