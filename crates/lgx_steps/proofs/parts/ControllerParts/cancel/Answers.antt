use Rattle.std.proofs.Common.{sym, subst}
use Rattle.lgx_steps.specs.PartsView.{view_of}
use Rattle.lgx_edit.proofs.CheckedBooks.{cancel-keeps_checked}
use Rattle.lgx_steps.proofs.Editing.{gives-edited, cancel-ready}
use Rattle.spec_machine.specs.Edits.{cancel}
use Rattle.lgx_steps.specs.Gives.{ViewGives}
use Rattle.spec_machine.specs.declared.answer.Outcome.{Outcome}
use Rattle.spec_machine.specs.Edits.{on_accepted}
use Rattle.spec_machine.specs.Actions.{edit_replied}
use Rattle.lgx_steps.proofs.parts.ControllerParts.cancel.Goals as goal

pub returns-clause-gives : goal.returns-clause-gives
returns-clause-gives c = λ n s h.
    subst (λ (x : Outcome). ViewGives n (record (view_of c.args.self.now) { book = c.cancel-done.new.self }) x (edit_replied s (on_accepted cancel s.books c.args.lane c.args.program.now))) (sym c.answered.ensures)
    (gives-edited n (view_of c.args.self.now) s h cancel cancel-ready cancel-keeps_checked c.args.lane c.args.program.now c.cancel-done.new.self c.cancel-done.result c.cancel-done.ensures)
