use Rattle.std.proofs.Common.{◌≡◌, ◌≤◌, ◌<◌, ◌∙◌, ap, arith, length, refl}
use Rattle.std.proofs.lemmas.List.{length-map}
use Rattle.spec_language.specs.Layout.{members_of}
use Rattle.spec_language.specs.declared.types.TypeDecl.{TypeDecl}
use Rattle.lgx_types.specs.Outlines.{member_names}
use Rattle.lgx_types.proofs.MemberSizes.{named_at, no_members}
use Rattle.lgx_types.proofs.resolved.Resolved.member_number.Goals as goal

pub returns-then-i-len : goal.returns-then-i-len
returns-then-i-len c =
    let many : length c.self.inside.members.items ≡ length c.self.inside.structures = ap length c.self.invariant.named ∙ length-map c.self.inside.structures (λ (d : TypeDecl). member_names d.members) in
    let there : c.args.i < length c.self.inside.structures = omega (arith, many, c.len.ensures, c.if-i-len.true) in
    let names : c.index-names.result.now ≡ member_names (members_of c.self.inside.structures c.args.i) = c.index-names.ensures ∙ named_at c.self.inside.structures c.self.inside.members.items c.args.i c.index-names.result.now c.self.invariant.named there in
    rw (c.find.ensures.number, c.bytes.ensures.bytes, names, ← c.self.view_is) refl

pub returns-else-i-len : goal.returns-else-i-len
returns-else-i-len c =
    let many : length c.self.inside.members.items ≡ length c.self.inside.structures = ap length c.self.invariant.named ∙ length-map c.self.inside.structures (λ (d : TypeDecl). member_names d.members) in
    let past : length c.self.inside.structures ≤ c.args.i = omega (arith, many, c.len.ensures, c.if-i-len.false) in
    rw (← c.self.view_is, no_members c.self.inside.structures c.args.i past) refl
