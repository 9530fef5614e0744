use Rattle.std.proofs.Common.{◌+◌, ◌-◌, inl, inr, ap, sym, true, set, ◌∙◌, arith}
use Rattle.std.proofs.lemmas.Bool.{cases_eq}
use Rattle.lgx_image.specs.Grains.{is_marked, word_of}
use Rattle.lgx_image.proofs.Marks.{word_of-is, set_stays, watch_range-more}
use Rattle.lgx_image.proofs.hits.Hits.watch_range.Goals as goal

pub watch-requires : goal.watch-requires
watch-requires c = omega (arith, word_of-is c.loop-byte.byte, c.word_of.ensures)

pub loop-byte-preserved : goal.loop-byte-preserved
loop-byte-preserved c =
    let old = c.loop-byte.invariant in
    let byte = c.loop-byte.byte in
    record {
      watched =
          c.watch.ensures.watched
          ∙ ap (λ w. set c.loop-byte.self.watched w true) c.word_of.ensures
          ∙ ap (λ l. set l (word_of byte) true) old.watched
          ∙ sym (watch_range-more c.args.self.now.watched c.args.at (byte - c.args.at) (byte + 1 - c.args.at) byte (omega arith) (omega arith));
      all = λ b above below. elim (cases_eq b byte) [
        | inl same ↦ rw same (ap (is_marked c.watch.new.self.watched) (sym c.word_of.ensures) ∙ c.watch.ensures.its)
        | inr other ↦ ap (λ l. is_marked l (word_of b)) c.watch.ensures.watched ∙ set_stays c.loop-byte.self.watched c.word_of.result (word_of b) (old.all b above (omega (arith, other)))
      ];
      hits = c.watch.ensures.hits ∙ old.hits;
    }
