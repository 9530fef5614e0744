use Rattle.std.proofs.Common.{◌≡◌, ◌+◌, ◌≤◌, ◌∙◌, List, ◌++◌, [], ap, arith, drop, get_or, sym}
use Rattle.std.proofs.Math.ListN.{drop_of_length-le}
use Rattle.std.proofs.lemmas.List.{append-nil}
use Rattle.spec_language.specs.declared.types.TypeDecl.{TypeDecl}
use Rattle.spec_language.specs.declared.types.Base.TheVariants.{Bool as OneBit}
use Rattle.spec_language.specs.Layout.{size_of}
use Rattle.lgx_tags.specs.Layouts.{place_tags, place_tags_end}
use Rattle.lgx_tags.specs.declared.layout.NumberedTag.{NumberedTag}
use Rattle.lgx_tags.specs.declared.layout.PlacedTag.{PlacedTag}
use Rattle.lgx_tags.proofs.Rows.{end_next, place_tags_within, placed_next}
use Rattle.lgx_tags.proofs.layout.place_tags.Goals as goal

abbrev none : NumberedTag
none = record { entry = 0; of = record { base = OneBit; dim = 0 } }

pub overflow_add-end : goal.overflow_add-end
overflow_add-end c =
    let within : c.loop-tag.at + size_of c.args.types.now (get_or c.args.order.now c.loop-tag.tag-index none).of ≤ place_tags_end c.args.types.now c.loop-tag.at (drop c.loop-tag.tag-index c.args.order.now) = place_tags_within c.args.types.now c.loop-tag.at c.loop-tag.tag-index c.args.order.now none c.loop-tag-test.true in
    omega (arith, within, c.size_of.ensures.value, c.loop-tag.invariant.1, c.requires.room)

pub round_up-at-requires : goal.round_up-at-requires
round_up-at-requires c =
    let within : c.loop-tag.at + size_of c.args.types.now (get_or c.args.order.now c.loop-tag.tag-index none).of ≤ place_tags_end c.args.types.now c.loop-tag.at (drop c.loop-tag.tag-index c.args.order.now) = place_tags_within c.args.types.now c.loop-tag.at c.loop-tag.tag-index c.args.order.now none c.loop-tag-test.true in
    omega (arith, within, c.size_of.ensures.value, c.loop-tag.invariant.1, c.requires.room)

pub loop-tag-preserved : goal.loop-tag-preserved
loop-tag-preserved c =
    let types : List TypeDecl = c.args.types.now in
    let order : List NumberedTag = c.args.order.now in
    let laid = placed_next types c.loop-tag.at c.loop-tag.tag-index order none c.loop-tag.laid.items (place_tags types 0 order) c.loop-tag-test.true c.loop-tag.invariant.0 in
    let end = end_next types c.loop-tag.at c.loop-tag.tag-index order none (place_tags_end types 0 order) c.loop-tag-test.true c.loop-tag.invariant.1 in
    rw (c.in_ok-push.ensures.items, c.round_up-at.ensures, c.size_of.ensures.value) (laid, end)

pub returns : goal.returns
returns c =
    let laid : List PlacedTag = c.loop-tag.laid.items in
    let all : drop c.loop-tag.tag-index c.args.order.now ≡ [] = drop_of_length-le c.args.order.now c.loop-tag-test.false in
    record { laid = sym (append-nil laid) ∙ ap (λ (ts : List NumberedTag). laid ++ place_tags c.args.types.now c.loop-tag.at ts) (sym all) ∙ c.loop-tag.invariant.0 }
