-- The rest of the versions is as before.
use Rattle.std.proofs.Common.{subst, sym}
use Rattle.lgx_versions.specs.Roles.{Roles}
use Rattle.lgx_edit.specs.EditsView.{AreTied}
use Rattle.lgx_edit.specs.Seen.{book_with}
use Rattle.lgx_edit.proofs.Tied.{tied-drop_hold}
use Rattle.lgx_edit.proofs.edits.ProgramEdits.drop_hold.Goals as goal

pub invariant_of-self : goal.invariant_of-self
invariant_of-self c =
    subst (λ (r : Roles). AreTied (book_with c.self.inside.name c.self.inside.main c.self.inside.routines.items c.self.inside.accepted.items c.self.inside.owner r) r) (sym c.drop_hold.ensures.roles)
    (tied-drop_hold c.self.inside.name c.self.inside.main c.self.inside.routines.items c.self.inside.accepted.items c.self.inside.owner c.self.inside.versions.roles c.self.invariant)
