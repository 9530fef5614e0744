use Rattle.std.proofs.Common.{arith, sym, ◌∙◌}
use Rattle.spec_language.specs.TagSpans.{spans_of}
use Rattle.lgx_places.proofs.WholeTags.{later_tag, no_more_tags, no_tag_left, this_tag}
use Rattle.lgx_places.proofs.whole.is_one_of.Goals as goal

pub returns-in_default : goal.returns-in_default
returns-in_default c =
    sym (no_more_tags c.args.at c.args.of (spans_of c.args.tags.now.declarations) c.args.types.now c.loop-i.i c.loop-i.invariant (sym c.tag_at.ensures ∙ c.in_default.is))

pub returns-then-is_tag_at : goal.returns-then-is_tag_at
returns-then-is_tag_at c =
    sym (this_tag c.args.at c.args.of (spans_of c.args.tags.now.declarations) c.args.types.now c.loop-i.i c.in-Some.span _ (omega arith) c.loop-i.invariant (sym c.tag_at.ensures ∙ c.in-Some.is) (sym c.is_tag_at.ensures ∙ c.if-is_tag_at.true))

pub loop-i-preserved : goal.loop-i-preserved
loop-i-preserved c =
    later_tag c.args.at c.args.of (spans_of c.args.tags.now.declarations) c.args.types.now c.loop-i.i c.in-Some.span _ (omega arith) c.loop-i.invariant (sym c.tag_at.ensures ∙ c.in-Some.is) (sym c.is_tag_at.ensures ∙ c.if-is_tag_at.false)

pub returns : goal.returns
returns c = sym (no_tag_left c.args.at c.args.of (spans_of c.args.tags.now.declarations) c.args.types.now c.loop-i.i (omega arith) c.loop-i.invariant)
