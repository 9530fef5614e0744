-- The versions select it.
use Rattle.std.proofs.Common.{true, subst, sym, ◌∙◌, ap}
use Rattle.spec_machine.specs.Edits.{has_accepted, test}
use Rattle.lgx_versions.specs.Roles.{Roles}
use Rattle.lgx_edit.specs.EditsView.{EditsView, AreTied}
use Rattle.lgx_edit.specs.Seen.{book_with, view_of}
use Rattle.lgx_edit.proofs.Tied.{tied-select}
use Rattle.lgx_edit.proofs.Commanded.{commanded, accepted_there, test-ok}
use Rattle.lgx_edit.proofs.edits.ProgramEdits.test.Goals as goal

pub invariant_of-self : goal.invariant_of-self
invariant_of-self c =
    subst (λ (r : Roles). AreTied (book_with c.self.inside.name c.self.inside.main c.self.inside.routines.items c.self.inside.accepted.items c.self.inside.owner r) r) (sym c.select.ensures.roles)
    (tied-select c.self.inside.name c.self.inside.main c.self.inside.routines.items c.self.inside.accepted.items c.self.inside.owner c.self.inside.versions.roles true c.self.invariant
    (λ h. c.self.invariant.accepted ∙ (ap (λ (e : EditsView). has_accepted e.book) c.self.view_is
    ∙ accepted_there c.args.lane c.args.self.now.book c.in_ok-may_edit.ensures)))

pub returns : goal.returns
returns c =
    commanded test c.args.lane (view_of c.self.inside) c.args.self.now (view_of (record c.self.inside { versions = c.select.new.self }))
    (record (view_of c.self.inside).book { testing = true }) c.self.view_is c.in_ok-may_edit.ensures
    (test-ok (view_of c.self.inside).book (sym c.if-is_testing.ensures.value))
    (ap (λ (r : Roles). book_with c.self.inside.name c.self.inside.main c.self.inside.routines.items c.self.inside.accepted.items c.self.inside.owner r) c.select.ensures.roles)
    (ap (λ (r : Roles). r.held) c.select.ensures.roles)
