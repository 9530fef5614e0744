-- All tasks are down, and the tick of the last change to Run stays.
use Rattle.std.proofs.Common.{ap, ◌∙◌}
use Rattle.lgx_sched.specs.TableView.{TableView, all_down}
use Rattle.lgx_sched.proofs.Calls.{represents-stop}
use Rattle.lgx_sched.proofs.table.TaskTable.stop.Goals as goal

pub returns-clause-represents : goal.returns-clause-represents
returns-clause-represents c = λ s h. represents-stop c.args.self.now _ s h (c.put_all_down-2.ensures.exact ∙ ap (λ (v : TableView). record (all_down c.args.self.now) { run_since = v.run_since }) c.put_all_down.view_is)
