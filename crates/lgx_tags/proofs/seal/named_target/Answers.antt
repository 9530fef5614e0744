use Rattle.std.proofs.Common.{◌≡◌, ◌∙◌, ap, sym, subst}
use Rattle.std.specs.Prelude.{List, []}
use Rattle.spec_language.specs.declared.types.TypeDecl.{TypeDecl}
use Rattle.spec_language.specs.Declarations.{bytes}
use Rattle.spec_language.specs.Resolution.{in_form, numbers_alone}
use Rattle.spec_language.specs.ResolutionLaws.{LiesIn}
use Rattle.lgx_tags.specs.Chains.{named_by}
use Rattle.lgx_tags.proofs.Declares.{all_placed}
use Rattle.lgx_tags.proofs.ResolvePasses.{names_in_bounds}
use Rattle.lgx_tags.proofs.seal.named_target.Goals as goal
use Rattle.spec_language.specs.LayoutLaws.{SoundTypes}

pub resolve_text-requires-clause-lie : goal.resolve_text-requires-clause-lie
resolve_text-requires-clause-lie c name f p =
    let lies : LiesIn c.args.declared.now.types (bytes c.args.declared.now) f × (f.steps ≡ []) = names_in_bounds c.args.declared.now c.args.known.now c.args.scope (all_placed c.args.declared.now.types c.args.declared.now.programs c.args.declared.now.entries c.types-types.ensures.admitted) c.requires c.types-types.ensures.sound name f p in
    subst (λ (types : List TypeDecl). LiesIn types (bytes c.args.declared.now) f × (f.steps ≡ [])) (sym c.types-types.ensures.value) lies

pub resolve_text-requires-clause-sound : goal.resolve_text-requires-clause-sound
resolve_text-requires-clause-sound c = subst SoundTypes (sym c.types-types.ensures.value) c.types-types.ensures.sound.types

pub returns-in-Err-Tag : goal.returns-in-Err-Tag
returns-in-Err-Tag c =
    let a = rw c.in-Err-Tag.field-0-is at c.in-Err-Tag.ensures.answer in
    sym a ∙ ap (λ (types : List TypeDecl). in_form numbers_alone types (named_by c.args.declared.now.entries c.args.known.now c.args.scope) c.args.target.now) c.types-types.ensures.value
