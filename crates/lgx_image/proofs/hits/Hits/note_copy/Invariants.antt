use Rattle.std.proofs.Common.{◌≡◌}
use Rattle.lgx_num.specs.Image.{piece, splice}
use Rattle.lgx_image.specs.Grains.{HitsAfter}
use Rattle.lgx_image.proofs.hits.Hits.note_copy.Given as goal

abbrev pub invariant-loop-offset : goal.invariant-loop-offset
invariant-loop-offset l = record {
  watched : l.self.watched ≡ l.initial.self.watched;
  hits : HitsAfter l.initial.self.watched l.initial.self.hits l.self.hits l.bytes (splice l.bytes l.target (piece l.bytes l.source l.offset));
}
