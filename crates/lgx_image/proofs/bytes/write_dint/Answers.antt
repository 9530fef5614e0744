use Rattle.std.proofs.Common.{◌≡◌, ◌*◌, ◌/◌, ◌≢◌, ap, sym, ◌∙◌, arith}
use Rattle.std.specs.Int.{w32, cast_signed, cast_unsigned}
use Rattle.std.proofs.lemmas.Int.{to_z-of_z}
use Rattle.lgx_num.specs.Number.{bytes_of}
use Rattle.lgx_num.specs.Image.{signed_at}
use Rattle.lgx_image.proofs.Writes.{same_dint, other_dint}
use Rattle.lgx_image.proofs.bytes.write_dint.Goals as goal

pub returns-then-dint_at-value-clause-after : goal.returns-then-dint_at-value-clause-after
returns-then-dint_at-value-clause-after c =
    let is : c.dint_at.result ≡ c.args.value =
    sym (to_z-of_z w32 c.dint_at.result (record { sfits = c.dint_at.type_inv })) ∙ ap (cast_signed w32) c.if-dint_at-value.true ∙ to_z-of_z w32 c.args.value c.ranges.value in
    sym (same_dint c.args.bytes.now (8 * c.args.byte / 8) c.args.value (ap bytes_of (sym is) ∙ c.dint_at.ensures.bytes))

pub returns-clause-changed : goal.returns-clause-changed
returns-clause-changed c = λ written.
    let at : 8 * c.args.byte / 8 ≡ c.args.byte = omega arith in
    let other : signed_at w32 c.args.bytes.now c.args.byte ≢ c.args.value =
    λ same. c.if-dint_at-value.false (ap (cast_unsigned w32) (c.dint_at.ensures.number ∙ ap (signed_at w32 c.args.bytes.now) at ∙ same)) in
    other_dint c.args.bytes.now c.bytes_of-low.result c.args.byte c.args.value (c.bytes_of-low.ensures ∙ ap bytes_of (to_z-of_z w32 c.args.value c.ranges.value)) c.ranges.value c.requires other
