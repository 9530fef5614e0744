-- The task that is to run has its regions changed.
use Rattle.lgx_sched.proofs.Calls.{represents-region_clear}
use Rattle.lgx_sched.proofs.table.TaskTable.region_clear.Goals as goal

pub returns-clause-represents : goal.returns-clause-represents
returns-clause-represents c = λ s h. represents-region_clear c.args.self.now _ s c.args.t _ c.active_task-up.ensures.table h c.requires.chosen c.active_task-up.ensures.up c.change.ensures.exact
