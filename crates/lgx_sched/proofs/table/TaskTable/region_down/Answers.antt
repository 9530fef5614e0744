-- The task that is to run has its regions changed.
use Rattle.std.proofs.Common.{◌∙◌, ap}
use Rattle.lgx_sched.specs.TableView.{with_active}
use Rattle.lgx_sched.proofs.Calls.{represents-region_down}
use Rattle.lgx_sched.proofs.table.TaskTable.region_down.Goals as goal

pub returns-clause-represents : goal.returns-clause-represents
returns-clause-represents c = λ s h. represents-region_down c.args.self.now _ s c.args.t _ c.active_task-up.ensures.table h c.requires.chosen c.active_task-up.ensures.up
    (c.change.ensures.exact ∙ ap (λ n. with_active c.args.t (record { start = c.active_task-up.result.start; region_count = n; cps_open = c.active_task-up.result.cps_open }) c.args.self.now) c.saturating_sub.ensures)
