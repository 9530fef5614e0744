-- The task that is to run has its CPS changed.
use Rattle.lgx_sched.proofs.Calls.{represents-set_copy}
use Rattle.lgx_sched.proofs.table.TaskTable.set_copy.Goals as goal

pub returns-clause-represents : goal.returns-clause-represents
returns-clause-represents c = λ s h. represents-set_copy c.args.self.now _ s c.args.t c.args.sync _ c.active_task-up.ensures.table h c.requires.chosen c.active_task-up.ensures.up c.change.ensures.exact
