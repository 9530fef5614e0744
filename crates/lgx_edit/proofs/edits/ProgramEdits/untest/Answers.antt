-- The versions select it.
use Rattle.std.proofs.Common.{false, subst, sym, ap}
use Rattle.std.proofs.lemmas.Bool.{false≢true}
use Rattle.spec_machine.specs.Edits.{untest}
use Rattle.lgx_versions.specs.Roles.{Roles}
use Rattle.lgx_edit.specs.EditsView.{AreTied}
use Rattle.lgx_edit.specs.Seen.{book_with, view_of}
use Rattle.lgx_edit.proofs.Tied.{tied-select}
use Rattle.lgx_edit.proofs.Commanded.{commanded, untest-ok}
use Rattle.lgx_edit.proofs.edits.ProgramEdits.untest.Goals as goal

pub invariant_of-self : goal.invariant_of-self
invariant_of-self c =
    subst (λ (r : Roles). AreTied (book_with c.self.inside.name c.self.inside.main c.self.inside.routines.items c.self.inside.accepted.items c.self.inside.owner r) r) (sym c.select.ensures.roles)
    (tied-select c.self.inside.name c.self.inside.main c.self.inside.routines.items c.self.inside.accepted.items c.self.inside.owner c.self.inside.versions.roles false c.self.invariant (λ h. absurd (false≢true h)))

pub returns : goal.returns
returns c =
    commanded untest c.args.lane (view_of c.self.inside) c.args.self.now (view_of (record c.self.inside { versions = c.select.new.self }))
    (record (view_of c.self.inside).book { testing = false }) c.self.view_is c.in_ok-may_edit.ensures
    (untest-ok (view_of c.self.inside).book (sym c.if-not-is_testing.ensures.value))
    (ap (λ (r : Roles). book_with c.self.inside.name c.self.inside.main c.self.inside.routines.items c.self.inside.accepted.items c.self.inside.owner r) c.select.ensures.roles)
    (ap (λ (r : Roles). r.held) c.select.ensures.roles)
