-- The tags that an instruction writes beside its operands.
use Rattle.std.proofs.Common.{◌≡◌, ℕ, ◌<◌, List, [], length, get_or, sym, ap, ◌∙◌, subst}
use Rattle.std.proofs.lemmas.List.{get_or_read}
use Rattle.lgx_rung.specs.declared.ins.Ins.{Ins}
use Rattle.lgx_rung.specs.declared.op.Op.TheVariants.{Ret}
use Rattle.spec_language.specs.declared.span.TagSpan.{TagSpan}
use Rattle.spec_machine.specs.Project.{ProgramText}
use Rattle.spec_uses.specs.Uses.{Site, program_instructions, returns_to, with_returns}
use Rattle.lgx_xref.specs.Returns.{AreReturnsIn}
use Rattle.lgx_xref.specs.TagSets.{AreTagsOf}
use Rattle.lgx_xref.proofs.Tagged.{none_of_none, nothing_beside}

-- those of a RET are its routine's
pub beside_ret : (spans : List TagSpan) (program : ProgramText) (returns : List (List ℕ)) (s : Site) (r : ℕ) (i : Ins) (set tags : List ℕ)
    → i ≡ s.ins → i.op ≡ Ret → r ≡ s.at.routine → s.at.routine < length returns → set ≡ get_or returns r set → tags ≡ set
    → AreReturnsIn spans (program_instructions program) returns
    → AreTagsOf spans (with_returns s.ins.op (returns_to program s.at.routine)) tags
beside_ret spans program returns s r i set tags ins ret number known is same all =
    let bits = returns_to program s.at.routine in
    let op : s.ins.op ≡ Ret = sym (ap (λ i. i.op) ins) ∙ ret in
    let within : r < length returns = subst (λ n. n < length returns) (sym number) known in
    let there : tags ≡ get_or returns s.at.routine [] = same ∙ get_or_read returns r set within is [] ∙ ap (λ n. get_or returns n []) number in
    subst (λ ts. AreTagsOf spans (with_returns s.ins.op bits) ts) (sym there)
    (subst (λ o. AreTagsOf spans (with_returns o bits) (get_or returns s.at.routine [])) (sym op) (all s.at.routine known))

-- no other instruction has any
pub beside_none : (spans : List TagSpan) (program : ProgramText) (s : Site) (i : Ins) (tags : List ℕ)
    → i ≡ s.ins → (i.op ≡ Ret → ⊥) → tags ≡ []
    → AreTagsOf spans (with_returns s.ins.op (returns_to program s.at.routine)) tags
beside_none spans program s i tags ins other none =
    let bits = returns_to program s.at.routine in
    let op : (s.ins.op ≡ Ret → ⊥) = λ p. other (ap (λ i. i.op) ins ∙ p) in
    subst (λ bs. AreTagsOf spans bs tags) (sym (nothing_beside s.ins.op bits op)) (none_of_none spans tags none)
