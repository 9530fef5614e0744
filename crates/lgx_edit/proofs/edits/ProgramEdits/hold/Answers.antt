-- The versions hold what is selected.
use Rattle.std.proofs.Common.{subst, sym, ◌∙◌, ap}
use Rattle.spec_machine.specs.Edits.{selected_number}
use Rattle.lgx_versions.specs.Roles.{Roles}
use Rattle.lgx_edit.specs.EditsView.{EditsView, AreTied}
use Rattle.lgx_edit.specs.Seen.{book_with, view_of}
use Rattle.lgx_edit.proofs.Tied.{tied-hold, held-now, selected-number}
use Rattle.lgx_edit.proofs.edits.ProgramEdits.hold.Goals as goal

pub invariant_of-self : goal.invariant_of-self
invariant_of-self c =
    subst (λ (r : Roles). AreTied (book_with c.self.inside.name c.self.inside.main c.self.inside.routines.items c.self.inside.accepted.items c.self.inside.owner r) r) (sym c.hold.ensures.roles)
    (tied-hold c.self.inside.name c.self.inside.main c.self.inside.routines.items c.self.inside.accepted.items c.self.inside.owner c.self.inside.versions.roles c.self.invariant)

pub returns-clause-number : goal.returns-clause-number
returns-clause-number c =
    c.hold.ensures.number ∙ (selected-number (view_of c.self.inside).book c.self.inside.versions.roles c.self.invariant
    ∙ ap (λ (e : EditsView). selected_number e.book) c.self.view_is)

pub returns-clause-held : goal.returns-clause-held
returns-clause-held c = held-now c.self.inside c.hold.new.self c.args.self.now c.self.invariant c.self.view_is c.hold.ensures.roles
