use Rattle.std.proofs.Common.{◌+◌, ◌-◌, length, ap, subst, arith}
use Rattle.std.proofs.lemmas.Grind.{common_steps}
use Rattle.lgx_image.specs.Grains.{ImageView}
use Rattle.lgx_image.specs.Words.{IsNoted}
use Rattle.lgx_image.proofs.Marks.{grain_of-is}
use Rattle.lgx_image.proofs.Words.{grains_of_view}
use Rattle.lgx_image.proofs.WatchedWords.{word_below, written_hits}
use Rattle.lgx_image.proofs.Changes.{dint_noted}
use Rattle.lgx_image.proofs.image.Image.store_word.Goals as goal

pub mark_inside-requires-clause-one : goal.mark_inside-requires-clause-one
mark_inside-requires-clause-one c = omega (arith, grain_of-is (c.args.byte + 4 - 1), grain_of-is c.args.byte, c.requires.aligned)

pub note-requires : goal.note-requires
note-requires c =
    let len = ap (λ (i : ImageView). length i.bytes) c.self.view_is in
    rw c.word_of.ensures (word_below c.args.byte (length c.self.inside.bytes.items) (omega (arith, len, c.requires.lies)) c.self.invariant)

pub returns-then-differs-clause-hits : goal.returns-then-differs-clause-hits
returns-then-differs-clause-hits c =
    written_hits _ c.args.self.now c.note.new.self.hits c.deref_mut.result.now c.write_dint-differs.new.bytes _ c.self.view_is c.deref_mut.ensures.value
    (dint_noted _ _ c.note.new.self.hits c.deref_mut.result.now c.write_dint-differs.new.bytes c.args.byte _ c.requires.aligned c.write_dint-differs.ensures.after (c.write_dint-differs.ensures.changed c.if-differs.true)
    (subst (IsNoted c.self.inside.hits.watched c.self.inside.hits.hits c.note.new.self.hits) c.word_of.ensures c.note.ensures.hits))
    (grind (arith, common_steps))

pub returns-then-differs-clause-grains : goal.returns-then-differs-clause-grains
returns-then-differs-clause-grains c = grains_of_view c.self.inside.bytes.items c.self.inside.marks c.self.inside.hits.watched c.self.inside.hits.hits c.args.self.now c.self.view_is

pub returns-else-differs-clause-grains : goal.returns-else-differs-clause-grains
returns-else-differs-clause-grains c = grains_of_view c.self.inside.bytes.items c.self.inside.marks c.self.inside.hits.watched c.self.inside.hits.hits c.args.self.now c.self.view_is
