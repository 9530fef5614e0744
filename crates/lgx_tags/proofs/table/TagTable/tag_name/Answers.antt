use Rattle.std.proofs.Common.{◌≡◌, ◌<◌, ◌∙◌, ℕ, ap, sym, arith, length, get_or}
use Rattle.std.specs.Prelude.{List, Some, slice_get}
use Rattle.std.proofs.lemmas.Option.{slice_get-get_or}
use Rattle.spec_language.specs.declared.types.Base.TheVariants.{Bool as OneBit}
use Rattle.spec_language.specs.Declarations.{Declarations}
use Rattle.lgx_tags.specs.Layouts.{placed_tags}
use Rattle.spec_language.specs.TagSpans.{spans_of, tag_names}
use Rattle.lgx_tags.specs.declared.layout.PlacedTag.{PlacedTag}
use Rattle.lgx_tags.proofs.TagSpans.{told_count, told_entry, told_name}
use Rattle.lgx_tags.proofs.table.TagTable.tag_name.Goals as goal

abbrev none : PlacedTag
none = record { entry = 0; of = record { base = OneBit; dim = 0 }; start = 0; end = 0 }

pub bounds-laid-i : goal.bounds-laid-i
bounds-laid-i c =
    let long : length c.as_slice-laid.result.now ≡ length (spans_of c.args.self.now.declarations) = ap length (c.as_slice-laid.ensures.value ∙ c.seal_of.ensures.tags) ∙ told_count c.args.self.now.declarations in
    omega (arith, long, c.requires.within)

pub entry-entry-requires : goal.entry-entry-requires
entry-entry-requires c =
    let d : Declarations = c.declared.result.now in
    let ls : List PlacedTag = c.as_slice-laid.result.now in
    let long : length ls ≡ length (spans_of c.args.self.now.declarations) = ap length (c.as_slice-laid.ensures.value ∙ c.seal_of.ensures.tags) ∙ told_count c.args.self.now.declarations in
    let within : c.args.i < length ls = omega (arith, long, c.requires.within) in
    let there : slice_get ls c.args.i ≡ Some (get_or ls c.args.i none) = slice_get-get_or ls c.args.i none within in
    let view : c.args.self.now.declarations ≡ d = sym c.declared.ensures in
    let laid : ls ≡ placed_tags d = c.as_slice-laid.ensures.value ∙ c.seal_of.ensures.tags ∙ ap placed_tags view in
    told_entry d ls c.args.i (get_or ls c.args.i none) laid there

pub returns : goal.returns
returns c =
    let d : Declarations = c.declared.result.now in
    let ls : List PlacedTag = c.as_slice-laid.result.now in
    let long : length ls ≡ length (spans_of c.args.self.now.declarations) = ap length (c.as_slice-laid.ensures.value ∙ c.seal_of.ensures.tags) ∙ told_count c.args.self.now.declarations in
    let within : c.args.i < length ls = omega (arith, long, c.requires.within) in
    let there : slice_get ls c.args.i ≡ Some (get_or ls c.args.i none) = slice_get-get_or ls c.args.i none within in
    let view : c.args.self.now.declarations ≡ d = sym c.declared.ensures in
    let laid : ls ≡ placed_tags d = c.as_slice-laid.ensures.value ∙ c.seal_of.ensures.tags ∙ ap placed_tags view in
    ap (λ (n : List ℕ). Some n) c.name.ensures ∙ told_name d ls c.args.i (get_or ls c.args.i none) c.entry-entry.result.now laid there c.entry-entry.ensures ∙ ap (λ (d : Declarations). slice_get (tag_names d) c.args.i) (sym view)
