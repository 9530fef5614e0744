use Rattle.std.proofs.Common.{◌≡◌, ◌∙◌, ap, sym, arith, length, get_or}
use Rattle.std.specs.Prelude.{List, Some, slice_get}
use Rattle.std.proofs.lemmas.Option.{slice_get-get_or, slice_get_past}
use Rattle.spec_language.specs.declared.types.Base.TheVariants.{Bool as OneBit}
use Rattle.spec_language.specs.declared.tag.Scope.{Scope}
use Rattle.spec_language.specs.Declarations.{Declarations}
use Rattle.lgx_tags.specs.Layouts.{placed_tags}
use Rattle.spec_language.specs.TagSpans.{spans_of}
use Rattle.lgx_tags.specs.declared.layout.PlacedTag.{PlacedTag}
use Rattle.lgx_tags.proofs.TagSpans.{told_count, told_entry, told_span}
use Rattle.lgx_tags.proofs.table.TagTable.tag_at.Goals as goal

abbrev none : PlacedTag
none = record { entry = 0; of = record { base = OneBit; dim = 0 }; start = 0; end = 0 }

pub returns-then-i-laid : goal.returns-then-i-laid
returns-then-i-laid c =
    let long : length c.as_slice-laid.result.now ≡ length (spans_of c.args.self.now.declarations) = ap length (c.as_slice-laid.ensures.value ∙ c.seal_of.ensures.tags) ∙ told_count c.args.self.now.declarations in
    sym (slice_get_past (spans_of c.args.self.now.declarations) c.args.i (omega (arith, long, c.if-i-laid.true)))

pub entry-entry-requires : goal.entry-entry-requires
entry-entry-requires c =
    let d : Declarations = c.declared.result.now in
    let ls : List PlacedTag = c.as_slice-laid.result.now in
    let there : slice_get ls c.args.i ≡ Some (get_or ls c.args.i none) = slice_get-get_or ls c.args.i none c.if-i-laid.false in
    let view : c.args.self.now.declarations ≡ d = sym c.declared.ensures in
    let laid : ls ≡ placed_tags d = c.as_slice-laid.ensures.value ∙ c.seal_of.ensures.tags ∙ ap placed_tags view in
    told_entry d ls c.args.i (get_or ls c.args.i none) laid there

pub returns : goal.returns
returns c =
    let d : Declarations = c.declared.result.now in
    let ls : List PlacedTag = c.as_slice-laid.result.now in
    let there : slice_get ls c.args.i ≡ Some (get_or ls c.args.i none) = slice_get-get_or ls c.args.i none c.if-i-laid.false in
    let view : c.args.self.now.declarations ≡ d = sym c.declared.ensures in
    let laid : ls ≡ placed_tags d = c.as_slice-laid.ensures.value ∙ c.seal_of.ensures.tags ∙ ap placed_tags view in
    ap (λ (s : Scope). Some (record { scope = s; start = (get_or ls c.args.i none).start; end = (get_or ls c.args.i none).end })) c.scope.ensures ∙ told_span d ls c.args.i (get_or ls c.args.i none) c.entry-entry.result.now laid there c.entry-entry.ensures ∙ ap (λ (d : Declarations). slice_get (spans_of d) c.args.i) (sym view)
