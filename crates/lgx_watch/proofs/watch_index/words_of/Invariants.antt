use Rattle.std.proofs.Common.{◌≡◌, ℕ, ◌<◌, Some}
use Rattle.std.specs.Prelude.{slice_get}
use Rattle.lgx_num.specs.declared.place.Place.{Place}
use Rattle.lgx_watch.specs.Watches.{last_word}
use Rattle.lgx_watch.proofs.watch_index.words_of.Given as goal

abbrev pub invariant-loop-place : goal.invariant-loop-place
invariant-loop-place l = (w : ℕ) (p : Place) → w < l.place-index → slice_get l.places w ≡ Some p → last_word p < l.words
