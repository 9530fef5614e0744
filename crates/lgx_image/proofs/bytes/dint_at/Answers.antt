use Rattle.std.proofs.Common.{rules, ◌≡◌, ◌*◌, ◌/◌, arith}
use Rattle.lgx_image.proofs.Writes.{bytes_of_dint}
use Rattle.lgx_image.proofs.bytes.dint_at.Goals as goal

pub returns-clause-bytes : goal.returns-clause-bytes
returns-clause-bytes c =
    let at : 8 * c.args.byte / 8 ≡ c.args.byte = omega arith in
    bytes_of_dint c.args.bytes.now (8 * c.args.byte / 8) _ (λ i. (c.type_inv.bytes i).fits) (omega (arith, at, c.requires)) (search rules)
