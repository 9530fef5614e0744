use Rattle.std.proofs.Common.{sym, subst}
use Rattle.lgx_steps.specs.PartsView.{view_of}
use Rattle.lgx_edit.proofs.CheckedBooks.{untest-keeps_checked}
use Rattle.lgx_steps.proofs.Editing.{gives-edited, untest-ready}
use Rattle.spec_machine.specs.Edits.{untest}
use Rattle.lgx_steps.specs.Gives.{ViewGives}
use Rattle.spec_machine.specs.declared.answer.Outcome.{Outcome}
use Rattle.spec_machine.specs.Edits.{on_accepted}
use Rattle.spec_machine.specs.Actions.{edit_replied}
use Rattle.lgx_steps.proofs.parts.ControllerParts.untest.Goals as goal

pub returns-clause-gives : goal.returns-clause-gives
returns-clause-gives c = λ n s h.
    subst (λ (x : Outcome). ViewGives n (record (view_of c.args.self.now) { book = c.untest-done.new.self }) x (edit_replied s (on_accepted untest s.books c.args.lane c.args.program.now))) (sym c.answered.ensures)
    (gives-edited n (view_of c.args.self.now) s h untest untest-ready untest-keeps_checked c.args.lane c.args.program.now c.untest-done.new.self c.untest-done.result c.untest-done.ensures)
