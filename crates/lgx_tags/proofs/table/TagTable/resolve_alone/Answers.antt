use Rattle.std.proofs.Common.{◌≡◌, ◌∙◌, ap, sym, subst, Ok}
use Rattle.std.specs.Prelude.{List, [], IfSome}
use Rattle.std.proofs.lemmas.Option.{IfSome_then}
use Rattle.spec_language.specs.Layout.{single}
use Rattle.spec_language.specs.declared.types.TypeDecl.{TypeDecl}
use Rattle.spec_language.specs.declared.tag.Found.{Found}
use Rattle.spec_language.specs.Declarations.{Declarations, bytes}
use Rattle.spec_language.specs.Resolution.{in_form, named, operands, found}
use Rattle.spec_language.specs.ResolutionLaws.{LiesIn}
use Rattle.spec_language.specs.LayoutLaws.{SoundTypes}
use Rattle.lgx_tags.specs.Chains.{named_by, AllResolved}
use Rattle.lgx_tags.proofs.Declares.{AreInScopes, all_placed}
use Rattle.lgx_tags.proofs.ResolvedChains.{resolved_named}
use Rattle.lgx_tags.proofs.ResolvePasses.{names_in_bounds}
use Rattle.lgx_tags.proofs.ReadingBounds.{has_size}
use Rattle.lgx_types.specs.Tables.{HasSize}
use Rattle.lgx_tags.proofs.TagSpans.{form_same}
use Rattle.lgx_tags.proofs.table.TagTable.resolve_alone.Goals as goal

pub find_alone-requires-clause-lie : goal.find_alone-requires-clause-lie
find_alone-requires-clause-lie c name f p =
    let d : Declarations = c.declared-declared.result.now in
    let view : c.args.self.now.declarations ≡ d = sym c.declared-declared.ensures in
    let all_resolved : AllResolved d c.as_slice-known.result.now = subst (λ (d : Declarations). AllResolved d c.as_slice-known.result.now) view (subst (AllResolved c.args.self.now.declarations) (sym c.as_slice-known.ensures.value) c.seal_of.ensures.all_resolved) in
    let lies : LiesIn d.types (bytes d) f × (f.steps ≡ []) = names_in_bounds d c.as_slice-known.result.now c.args.scope (all_placed d.types d.programs d.entries c.types-types.ensures.admitted) all_resolved.partly c.types-types.ensures.sound name f p in
    subst (λ (types : List TypeDecl). LiesIn types (bytes d) f × (f.steps ≡ [])) (sym c.types-types.ensures.value) lies

pub find_alone-requires-clause-sound : goal.find_alone-requires-clause-sound
find_alone-requires-clause-sound c = subst SoundTypes (sym c.types-types.ensures.value) c.types-types.ensures.sound.types

pub returns-clause-answer : goal.returns-clause-answer
returns-clause-answer c =
    let d : Declarations = c.declared-declared.result.now in
    let back : d ≡ c.args.self.now.declarations = c.declared-declared.ensures in
    let all_resolved : AllResolved d c.as_slice-known.result.now = subst (λ (d : Declarations). AllResolved d c.as_slice-known.result.now) (sym back) (subst (AllResolved c.args.self.now.declarations) (sym c.as_slice-known.ensures.value) c.seal_of.ensures.all_resolved) in
    let placed : AreInScopes d.programs d.entries = all_placed d.types d.programs d.entries c.types-types.ensures.admitted in
    let same : in_form operands c.types-types.result.now (named_by d.entries c.as_slice-known.result.now c.args.scope) c.args.text.now ≡ in_form operands d.types (named d c.args.scope) c.args.text.now = ap (λ (types : List TypeDecl). in_form operands types (named_by d.entries c.as_slice-known.result.now c.args.scope) c.args.text.now) c.types-types.ensures.value ∙ form_same operands d.types (named_by d.entries c.as_slice-known.result.now c.args.scope) (named d c.args.scope) c.args.text.now (λ name. sym (resolved_named d c.as_slice-known.result.now placed all_resolved c.args.scope name)) in
    subst (λ (d : Declarations). IfSome c.find_alone.result (λ f. found d c.args.scope c.args.text.now ≡ Ok f)) back (IfSome_then c.find_alone.result c.find_alone.ensures.answer (λ f q. sym same ∙ q))

pub returns-clause-sized : goal.returns-clause-sized
returns-clause-sized c =
    let d : Declarations = c.declared-declared.result.now in
    let types : List TypeDecl = c.types-types.result.now in
    let same : types ≡ c.args.self.now.declarations.types = c.types-types.ensures.value ∙ ap (λ (d : Declarations). d.types) c.declared-declared.ensures in
    subst (λ (ts : List TypeDecl). IfSome c.find_alone.result (λ f. HasSize ts (single f.of.base))) same (IfSome_then c.find_alone.result c.find_alone.ensures.lies (has_size types (bytes d)))
