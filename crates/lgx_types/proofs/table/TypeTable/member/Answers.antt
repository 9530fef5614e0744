use Rattle.std.proofs.Common.{◌≡◌, refl}
use Rattle.spec_language.specs.Layout.{member}
use Rattle.spec_language.specs.declared.types.Base.TheVariants.{User}
use Rattle.lgx_types.proofs.Placed.{laid_member, member_low}
use Rattle.lgx_types.proofs.table.TypeTable.member.Goals as goal

pub returns-in-User : goal.returns-in-User
returns-in-User c =
    let v : c.place_in.result ≡ member c.self.inside.parts.value.resolved (User c.in-User.i) c.args.name.now = rw (c.place_in.ensures, c.deref-in-User.ensures.value, c.deref.ensures, c.self.invariant.laid, c.member_number.ensures, c.deref-in-User-2.ensures) (laid_member c.self.inside.parts.value.resolved c.in-User.i c.args.name.now) in
    record { value = rw (v, c.in-User.is, ← c.self.view_is) refl; room = member_low _ _ _ c.self.invariant c.in-User.i c.args.name.now _ v }
