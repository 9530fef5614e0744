use Rattle.std.proofs.Common.{◌≡◌, ℕ, ◌+◌, ◌*◌, ◌<◌, true, Some}
use Rattle.std.specs.Prelude.{slice_get}
use Rattle.lgx_num.specs.declared.place.Place.{Place}
use Rattle.lgx_watch.specs.Watches.{is_member, LiesIn, LiesInWord}
use Rattle.lgx_watch.proofs.watch_index.WatchIndex.of.Given as goal

abbrev pub invariant-loop-word : goal.invariant-loop-word
invariant-loop-word l = record {
  members : (k w : ℕ) (p : Place) → k < l.word → slice_get l.self w ≡ Some p → LiesInWord p (l.grain * 16 + k) → is_member l.set w ≡ true;
  known : (w : ℕ) → is_member l.set w ≡ true → (p : Place) × (slice_get l.self w ≡ Some p) × LiesIn p l.grain;
}
