use Rattle.std.proofs.Common.{◌≡◌, true}
use Rattle.std.specs.Prelude.{◌&&◌}
use Rattle.spec_base.specs.Pieces.{pieces}
use Rattle.spec_language.specs.OperandForm.{may_lead, is_joined}
use Rattle.lgx_tags.specs.TagNames.{are_parts}
use Rattle.lgx_tags.proofs.TagNames.{joined_parts}
use Rattle.lgx_tags.proofs.tag_name.is_joined.Goals as goal

pub returns-then-may_lead : goal.returns-then-may_lead
returns-then-may_lead c =
    let step : is_joined (pieces 58 c.args.text.now) ≡ (may_lead c.in-Some.first.now && are_parts 3 (pieces 58 c.in-Some.parts.now)) = joined_parts c.in-Some.first.now c.in-Some.parts.now c.args.text.now c.in-Some.ensures.some in
    let fit : may_lead c.in-Some.first.now ≡ true = cc in
    let step' : is_joined (pieces 58 c.args.text.now) ≡ are_parts 3 (pieces 58 c.in-Some.parts.now) = rw fit at step in
    cc
