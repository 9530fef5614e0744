use Rattle.std.proofs.Common.{sym, subst}
use Rattle.spec_machine.specs.Ticks.{in_run}
use Rattle.lgx_sched.specs.TableView.{TableView}
use Rattle.lgx_steps.specs.PartsView.{view_of}
use Rattle.lgx_steps.specs.Gives.{ViewGives}
use Rattle.lgx_steps.proofs.parts.ControllerParts.find_work.Goals as goal

pub returns-clause-gives : goal.returns-clause-gives
returns-clause-gives c = λ n s h.
    subst (λ (w : TableView). ViewGives n (record (view_of c.watch_and_release-report.new.self) { table = w }) c.watch_and_release-report.result (in_run s)) (sym c.find_quiet.ensures)
    (c.watch_and_release-report.ensures.gives n s h)
