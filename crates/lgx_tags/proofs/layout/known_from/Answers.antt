use Rattle.std.proofs.Common.{◌≡◌, ◌+◌, ◌∙◌, List, ◌∷◌, [], ap, get_or, replicate, sym, take}
use Rattle.std.specs.Prelude.{Err}
use Rattle.std.proofs.lemmas.List.{length-set, take_all, take_more}
use Rattle.std.proofs.lemmas.List.Sums.{fold-append}
use Rattle.spec_language.specs.declared.types.Base.TheVariants.{Bool as OneBit}
use Rattle.spec_language.specs.declared.tag.TagCode.TheVariants.{G7}
use Rattle.lgx_tags.specs.Chains.{Resolved}
use Rattle.lgx_tags.specs.Layouts.{known_from, with_tag}
use Rattle.lgx_tags.specs.declared.layout.PlacedTag.{PlacedTag}
use Rattle.lgx_tags.proofs.layout.known_from.Goals as goal

abbrev none : PlacedTag
none = record { entry = 0; of = record { base = OneBit; dim = 0 }; start = 0; end = 0 }

pub loop-tag-preserved : goal.loop-tag-preserved
loop-tag-preserved c =
    let laid : List PlacedTag = c.args.laid.now in
    let tag : PlacedTag = get_or laid c.loop-tag.tag-index none in
    let before : List PlacedTag = take c.loop-tag.tag-index laid in
    let more : known_from c.args.count (take (c.loop-tag.tag-index + 1) laid) ≡ with_tag (known_from c.args.count before) tag = ap (known_from c.args.count) (take_more laid c.loop-tag.tag-index none c.loop-tag-test.true) ∙ fold-append with_tag (replicate c.args.count (Err G7)) before (tag ∷ []) in
    (ap (λ (known : List Resolved). with_tag known tag) c.loop-tag.invariant.0 ∙ sym more, length-set c.loop-tag.known.items tag.entry _ ∙ c.loop-tag.invariant.1)

pub returns : goal.returns
returns c = c.loop-tag.invariant.0 ∙ ap (known_from c.args.count) (take_all c.loop-tag.tag-index c.args.laid.now c.loop-tag-test.false)
