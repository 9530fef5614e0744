use Rattle.std.proofs.Common.{◌≡◌, ◌∙◌, List, ◌++◌, ◌∷◌, [], ap, refl, sym, take}
use Rattle.std.proofs.lemmas.List.{take_all, take_more}
use Rattle.spec_language.specs.declared.types.MemberDecl.{MemberDecl}
use Rattle.lgx_types.proofs.structures.copied.Goals as goal

pub loop-i-preserved : goal.loop-i-preserved
loop-i-preserved c =
    let given : List MemberDecl = c.as_slice-given.result.now in
    c.in_ok-push.ensures.items ∙ ap (λ (ms : List MemberDecl). ms ++ c.copied_member.result ∷ []) c.loop-i.invariant ∙ ap (λ (m : MemberDecl). take c.loop-i.i given ++ m ∷ []) (c.copied_member.ensures ∙ c.index-given-i.is) ∙ sym (take_more given c.loop-i.i c.index-given-i.result c.loop-i-test.true)

pub returns : goal.returns
returns c =
    let given : List MemberDecl = c.as_slice-given.result.now in
    let members : c.of.result ≡ c.args.decl.now.members = c.of.ensures ∙ c.loop-i.invariant ∙ take_all c.loop-i.i given c.loop-i-test.false ∙ c.as_slice-given.ensures in
    rw (c.copied.ensures, members) refl
