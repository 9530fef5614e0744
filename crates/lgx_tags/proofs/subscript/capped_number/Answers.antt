use Rattle.std.proofs.Common.{◌≤◌, length, sym, ◌∙◌, arith}
use Rattle.lgx_tags.proofs.Digits.{capped_end, capped_digits}
use Rattle.lgx_tags.proofs.subscript.capped_number.Goals as goal

pub returns : goal.returns
returns c =
    let done : length c.args.digits.now ≤ c.loop-digit.digit-index = omega arith in
    sym (capped_end c.loop-digit.number c.loop-digit.digit-index c.args.digits.now done) ∙ c.loop-digit.invariant ∙ capped_digits c.args.digits.now c.requires
