-- The tags of the bits that are read.
use Rattle.std.proofs.Common.{◌≡◌, [], ap, ◌∙◌, subst}
use Rattle.spec_uses.specs.Written.{bits_read}
use Rattle.lgx_xref.specs.TagSets.{AreTagsOf}
use Rattle.lgx_xref.proofs.Tagged.{none_of_none}
use Rattle.lgx_xref.proofs.note.read_tags.Goals as goal

pub returns : goal.returns
returns c =
    let spans = c.args.spans.now in
    let bits : c.deref.result.now ≡ bits_read c.args.site.now.ins =
    c.deref.ensures.value ∙ c.in_ok-bits.ensures ∙ ap bits_read c.ins.ensures in
    subst (λ bs. AreTagsOf spans bs c.add_bits.new.self) bits
    (c.in_ok-add_bits.ensures [] (none_of_none spans c.new-tags.result c.new-tags.ensures))
