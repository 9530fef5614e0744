use Rattle.std.proofs.Common.{length, sym, ap, ◌∙◌, subst}
use Rattle.std.proofs.lemmas.Int.{to_z-of_z}
use Rattle.std.proofs.Common.{ℤ, to_z, of_z, w32}
use Rattle.lgx_num.specs.declared.place.Place.{Place}
use Rattle.lgx_num.specs.Image.{InBounds, write, write_signed}
use Rattle.spec_tables.specs.Forces.{forced}
use Rattle.lgx_steps.proofs.IoWords.{word-inside, word-written}
use Rattle.lgx_steps.proofs.words.put_word.Goals as goal

pub put-requires : goal.put-requires
put-requires c = subst (λ (p : Place). InBounds p (length c.args.image.now.bytes)) (sym c.word_at.ensures) (word-inside c.args.slot.byte (length c.args.image.now.bytes) c.requires.inside)

pub returns-clause-bytes : goal.returns-clause-bytes
returns-clause-bytes c =
    let b = c.args.image.now.bytes in
    let value = to_z-of_z w32 c.forced-forced.result (record { sfits = c.forced-forced.type_inv }) ∙ (c.forced-forced.ensures ∙ ap (λ (z : ℤ). forced c.args.forces.now c.args.slot.io z) (to_z-of_z w32 c.args.value c.ranges.value)) in
    c.put.ensures.bytes ∙ (ap (λ (p : Place). write b p (to_z w32 (of_z w32 c.forced-forced.result))) c.word_at.ensures ∙ (word-written b c.args.slot.byte (to_z w32 (of_z w32 c.forced-forced.result)) ∙ ap (λ (z : ℤ). write_signed w32 b c.args.slot.byte z) value))
