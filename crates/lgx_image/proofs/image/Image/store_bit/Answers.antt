use Rattle.std.proofs.Common.{◌/◌, length, ap, subst, arith}
use Rattle.std.proofs.lemmas.Grind.{common_steps}
use Rattle.spec_scan.specs.Arguments.{bit_number}
use Rattle.lgx_image.specs.Grains.{ImageView}
use Rattle.lgx_image.specs.Words.{IsNoted}
use Rattle.lgx_image.proofs.Words.{grains_of_view}
use Rattle.lgx_image.proofs.WatchedWords.{word_below, written_hits}
use Rattle.lgx_image.proofs.Changes.{bit_noted}
use Rattle.lgx_image.proofs.image.Image.store_bit.Goals as goal

pub note-requires : goal.note-requires
note-requires c =
    let len = ap (λ (i : ImageView). length i.bytes) c.self.view_is in
    rw c.word_of.ensures (word_below (c.args.bit / 8) (length c.self.inside.bytes.items) (omega (arith, len, c.requires)) c.self.invariant)

pub returns-then-write_bit-clause-hits : goal.returns-then-write_bit-clause-hits
returns-then-write_bit-clause-hits c =
    written_hits _ c.args.self.now c.note.new.self.hits c.deref_mut.result.now c.write_bit.new.bytes _ c.self.view_is c.deref_mut.ensures.value
    (bit_noted _ _ c.note.new.self.hits c.deref_mut.result.now c.write_bit.new.bytes c.args.bit (bit_number c.args.value) c.write_bit.ensures.after (c.write_bit.ensures.changed c.if-write_bit.true)
    (subst (IsNoted c.self.inside.hits.watched c.self.inside.hits.hits c.note.new.self.hits) c.word_of.ensures c.note.ensures.hits))
    (grind (arith, common_steps))

pub returns-then-write_bit-clause-grains : goal.returns-then-write_bit-clause-grains
returns-then-write_bit-clause-grains c = grains_of_view c.self.inside.bytes.items c.self.inside.marks c.self.inside.hits.watched c.self.inside.hits.hits c.args.self.now c.self.view_is

pub returns-else-write_bit-clause-grains : goal.returns-else-write_bit-clause-grains
returns-else-write_bit-clause-grains c = grains_of_view c.self.inside.bytes.items c.self.inside.marks c.self.inside.hits.watched c.self.inside.hits.hits c.args.self.now c.self.view_is
