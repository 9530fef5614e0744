use Rattle.std.proofs.Common.{◌/◌}
use Rattle.lgx_image.specs.Grains.{word_of}
use Rattle.lgx_watch.specs.Index.{NumberAdded}
use Rattle.lgx_watch.proofs.watch_index.add_place.Given as goal

abbrev pub invariant-loop-word : goal.invariant-loop-word
invariant-loop-word l = NumberAdded l.number (word_of (l.fn.place.at / 8)) l.word l.fn.rows l.rows
