-- The history is the recorder's own.
use Rattle.std.proofs.Common.{◌≡◌, [], Option, Some, rules, refl, sym, subst}
use Rattle.spec_machine.specs.Project.{Project}
use Rattle.spec_text.specs.Scripts.{Script}
use Rattle.lgx_history.specs.Histories.{HistoryView, history_view}
use Rattle.lgx_shared.specs.Follows.{IsNew}
use Rattle.cmd_run.proofs.lanes.run_named.Invariants.{its_history}
use Rattle.cmd_run.proofs.lanes.run_named.Goals as goal

pub run_shared-requires-clause-recorder : goal.run_shared-requires-clause-recorder
run_shared-requires-clause-recorder g c =
    let P : Project → Type 0 = λ p. IsNew p g.J.Input.script c.in_ok-recorder.recorder in
    let Q : Script → Type 0 = λ s. IsNew c.args.project s c.in_ok-recorder.recorder in
    let new : IsNew g.J.Input.project g.J.Input.script c.in_ok-recorder.recorder = subst P c.requires.input.0 (subst Q c.requires.input.1 c.in_ok-recorder.ensures.new) in
    search (rules, new)

pub run_shared-requires-clause-history : goal.run_shared-requires-clause-history
run_shared-requires-clause-history g c =
    let own : c.in_ok-recorder.recorder.history ≡ Some (history_view (its_history c.in_ok-recorder.recorder.history) []) =
    subst (λ (h : Option HistoryView). h ≡ Some (history_view (its_history h) [])) (sym c.in_ok-recorder.ensures.history.1) refl in
    search (rules, own)
