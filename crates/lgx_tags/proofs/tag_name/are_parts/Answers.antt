use Rattle.std.proofs.Common.{◌≡◌, ◌<◌, ◌+◌, ◌-◌, true, arith}
use Rattle.std.specs.Prelude.{◌&&◌}
use Rattle.spec_base.specs.Pieces.{pieces}
use Rattle.spec_language.specs.OperandForm.{is_part}
use Rattle.lgx_tags.specs.TagNames.{are_parts}
use Rattle.lgx_tags.proofs.TagNames.{parts_more}
use Rattle.lgx_tags.proofs.tag_name.are_parts.Goals as goal

pub loop-preserved : goal.loop-preserved
loop-preserved c =
    let rest = c.in-Some.after.now in
    let left : 3 - (c.loop.counter + 1) ≡ 3 - c.loop.counter - 1 = omega arith in
    let some : 0 < 3 - c.loop.counter = omega arith in
    let step : are_parts (3 - c.loop.counter) (pieces 58 c.loop.rest.now) ≡ (is_part c.in-Some.part.now && are_parts (3 - c.loop.counter - 1) (pieces 58 rest)) = parts_more (3 - c.loop.counter) c.in-Some.part.now rest (pieces 58 c.loop.rest.now) some c.in-Some.ensures.some in
    let fit : is_part c.in-Some.part.now ≡ true = cc in
    let step' : are_parts (3 - c.loop.counter) (pieces 58 c.loop.rest.now) ≡ are_parts (3 - c.loop.counter - 1) (pieces 58 rest) = rw fit at step in
    cc

pub returns : goal.returns
returns c =
    let none : 3 - c.loop.counter ≡ 0 = omega arith in
    rw none at c.loop.invariant
