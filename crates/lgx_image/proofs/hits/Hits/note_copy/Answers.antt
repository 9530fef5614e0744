use Rattle.std.proofs.Common.{◌+◌, subst, ◌∙◌, arith}
use Rattle.lgx_image.specs.Grains.{word_of}
use Rattle.lgx_image.specs.Words.{IsNoted}
use Rattle.lgx_image.proofs.Marks.{word_of-is}
use Rattle.lgx_image.proofs.WatchedWords.{copy_noted, copy_not_noted}
use Rattle.lgx_image.proofs.hits.Hits.note_copy.Goals.{then-bytes-byte, else-bytes-byte}
use Rattle.lgx_image.proofs.hits.Hits.note_copy.Goals as goal

pub note-requires : goal.note-requires
note-requires c = omega (arith, word_of-is (c.args.target + c.loop-offset.offset), c.word_of.ensures)

pub loop-offset-preserved : goal.loop-offset-preserved
loop-offset-preserved c =
    let old = c.loop-offset.invariant in
    let bytes = c.args.bytes.now in
    let n = c.loop-offset.offset in
    let start = c.args.self.now in
    elim c.if-bytes-byte.branch [
      | then-bytes-byte w ↦
          let noted : IsNoted start.watched c.loop-offset.self.hits w.note.new.self.hits (word_of (c.args.target + n)) =
          subst (λ l. IsNoted l c.loop-offset.self.hits w.note.new.self.hits (word_of (c.args.target + n))) old.watched
          (subst (IsNoted c.loop-offset.self.watched c.loop-offset.self.hits w.note.new.self.hits) w.word_of.ensures w.note.ensures.hits) in
          rw w.self-is (record {
            watched = w.note.ensures.watched ∙ old.watched;
            hits = copy_noted bytes c.args.source c.args.target start.watched start.hits c.loop-offset.self.hits w.note.new.self.hits n (omega (arith, c.requires.target)) old.hits w.if-bytes-byte.true noted;
          })
      | else-bytes-byte w ↦ rw w.self-is (record {
        watched = old.watched;
        hits = copy_not_noted bytes c.args.source c.args.target start.watched start.hits c.loop-offset.self.hits c.loop-offset.self.hits n (omega (arith, c.requires.target)) old.hits w.if-bytes-byte.false (λ i. c.loop-offset.self.hits);
      })
    ]
