use Rattle.std.proofs.Common.{◌≡◌, ◌∙◌, ap, sym, get_or, true}
use Rattle.std.specs.Prelude.{List, Some, slice_get, slice_index_or, Err}
use Rattle.spec_language.specs.declared.tag.Scope.{Scope}
use Rattle.spec_language.specs.declared.tag.TagCode.TheVariants.{G7}
use Rattle.spec_language.specs.Declarations.{Entry, alias}
use Rattle.spec_language.specs.Resolution.{in_form, numbers_alone}
use Rattle.lgx_tags.specs.Chains.{Resolved, answer, named_by, is_open}
use Rattle.lgx_tags.proofs.Declares.{all_placed}
use Rattle.lgx_tags.proofs.ResolvePasses.{alias_of}
use Rattle.lgx_tags.proofs.ResolvedChains.{resolves as resolves_at}
use Rattle.lgx_tags.proofs.seal.resolve_entry.Goals as goal
use Rattle.lgx_tags.proofs.Declares.{entry_there}

pub returns : goal.returns
returns c =
    let e : Entry = c.index-entries-i.result in
    let d = c.args.declared.now in
    let there : slice_get d.entries c.args.i ≡ Some e = entry_there d.entries c.args.i e c.requires.within (c.index-entries-i.is ∙ ap (λ (es : List Entry). get_or es c.args.i e) c.entries.ensures.value) in
    let meaning : e.meaning ≡ alias c.in-Some.target.now = alias_of e.meaning c.in-Some.target.now c.in-Some.ensures in
    let opened : is_open (slice_index_or c.args.known.now.items c.args.i (Err G7)) ≡ true = ap is_open (ap (λ (ks : List Resolved). slice_index_or ks c.args.i (Err G7)) (sym c.as_slice.ensures.value) ∙ sym c.known_at.ensures) ∙ sym c.is_open.ensures ∙ c.if-not-is_open.false in
    let found : answer c.in_ok-found.found ≡ in_form numbers_alone d.types (named_by d.entries c.args.known.now.items e.scope) c.in-Some.target.now = c.in_ok-found.ensures ∙ ap (λ (ks : List Resolved). in_form numbers_alone d.types (named_by d.entries ks c.scope.result) c.in-Some.target.now) c.as_slice-2.ensures.value ∙ ap (λ (s : Scope). in_form numbers_alone d.types (named_by d.entries c.args.known.now.items s) c.in-Some.target.now) c.scope.ensures in
    record { resolves = resolves_at d c.args.known.now.items c.args.i e c.in-Some.target.now c.in_ok-found.found (all_placed d.types d.programs d.entries c.entries.ensures.admitted) c.requires.partly there meaning opened found }
