use Rattle.std.proofs.Common.{rules, ◌≡◌, ◌*◌, ◌/◌, ap, ◌∙◌, w32}
use Rattle.std.proofs.lemmas.Int.{to_z-of_z}
use Rattle.lgx_num.specs.declared.number.Kind.TheVariants.{Dint}
use Rattle.lgx_num.specs.Number.{store_low}
use Rattle.lgx_num.specs.Image.{write_of}
use Rattle.lgx_math.proofs.Dints.{stored_dint}
use Rattle.lgx_math.proofs.math.store_dint.Goals as goal

pub returns-clause-bytes : goal.returns-clause-bytes
returns-clause-bytes c =
    let low : c.low_dint-low.result ≡ store_low Dint c.args.exact = search rules in
    c.change_dint.ensures.bytes
    ∙ ap (write_of Dint c.args.image.now.bytes (8 * (c.args.place.at / 8))) (to_z-of_z w32 c.low_dint-low.result (record { sfits = c.low_dint-low.type_inv }) ∙ low)
    ∙ stored_dint c.args.image.now.bytes c.args.place c.args.exact c.requires.kind
