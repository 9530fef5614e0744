use Rattle.std.proofs.Common.{length, sym, ap, ◌∙◌, subst}
use Rattle.std.specs.Int.{w32}
use Rattle.std.proofs.lemmas.Int.{to_z-of_z}
use Rattle.std.proofs.Common.{ℤ}
use Rattle.lgx_num.specs.declared.place.Place.{Place}
use Rattle.lgx_num.specs.Image.{InBounds, number}
use Rattle.spec_tables.specs.Forces.{forced}
use Rattle.lgx_steps.proofs.IoWords.{word-inside, word-read}
use Rattle.lgx_steps.proofs.words.get_word.Goals as goal

pub get-value-requires : goal.get-value-requires
get-value-requires c = subst (λ (p : Place). InBounds p (length c.args.image.now.bytes)) (sym c.word_at.ensures) (word-inside c.args.slot.byte (length c.args.image.now.bytes) c.requires.inside)

pub returns : goal.returns
returns c =
    let b = c.args.image.now.bytes in
    let value = to_z-of_z w32 c.get-value.result (record { sfits = c.get-value.type_inv }) ∙ (c.get-value.ensures ∙ (ap (λ (p : Place). number b p) c.word_at.ensures ∙ word-read b c.args.slot.byte)) in
    to_z-of_z w32 c.forced.result (record { sfits = c.forced.type_inv }) ∙ (c.forced.ensures ∙ ap (λ (z : ℤ). forced c.args.forces.now c.args.slot.io z) value)
