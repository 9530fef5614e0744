-- The tags beside the operands, and those of the operands.
use Rattle.std.proofs.Common.{◌≡◌, ◌++◌, ap, ◌∙◌, subst}
use Rattle.spec_uses.specs.Uses.{returns_to, with_returns}
use Rattle.spec_uses.specs.Written.{bits_written}
use Rattle.lgx_xref.specs.TagSets.{AreTagsOf}
use Rattle.lgx_xref.proofs.Tagged.{swapped}
use Rattle.lgx_xref.proofs.note.written_tags.Goals as goal

pub returns : goal.returns
returns c program all =
    let spans = c.args.spans.now in
    let beside = with_returns c.args.site.now.ins.op (returns_to program c.args.site.now.at.routine) in
    let bits : c.deref.result.now ≡ bits_written c.args.site.now.ins =
    c.deref.ensures.value ∙ c.in_ok-bits.ensures ∙ ap bits_written c.ins.ensures in
    swapped spans beside (bits_written c.args.site.now.ins) c.add_bits.new.self
    (subst (λ bs. AreTagsOf spans (beside ++ bs) c.add_bits.new.self) bits
    (c.in_ok-add_bits.ensures beside (c.in_ok-tags.ensures spans program all)))
