-- One tag more, and all tags.
use Rattle.lgx_xref.proofs.Noted.{gains_none, tag_noted, tags_noted}
use Rattle.lgx_xref.proofs.note.note.Goals as goal

pub loop-tag-init : goal.loop-tag-init
loop-tag-init c = gains_none c.args.lists.now.items

pub loop-tag-preserved : goal.loop-tag-preserved
loop-tag-preserved c =
    tag_noted c.args.lists.now.items c.loop-tag.lists.items _ c.args.tags.now c.loop-tag.tag-index c.args.at c.requires c.loop-tag-test.true
    c.in_ok-push_at.ensures c.loop-tag.invariant

pub returns : goal.returns
returns c = tags_noted c.args.lists.now.items c.loop-tag.lists.items c.args.tags.now c.loop-tag.tag-index c.args.at c.loop-tag-test.false c.loop-tag.invariant
