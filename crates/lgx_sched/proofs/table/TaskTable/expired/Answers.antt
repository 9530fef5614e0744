-- The first task that has run out is that of the list.
use Rattle.std.proofs.Common.{List, Option, ap, ◌∙◌, subst, sym}
use Rattle.spec_tables.specs.declared.task.TaskDef.{TaskDef}
use Rattle.lgx_sched.specs.declared.active.ActiveTask.{ActiveTask}
use Rattle.lgx_sched.specs.Represents.{RepresentsTable}
use Rattle.lgx_sched.proofs.Calls.{first_run_out, represents-expired}
use Rattle.lgx_sched.proofs.table.TaskTable.expired.Goals as goal

pub returns-clause-represents : goal.returns-clause-represents
returns-clause-represents c = λ s h.
    c.first_expired.ensures.value ∙ (ap (λ (xs : List TaskDef). first_run_out c.args.now xs c.deref.result.now) c.as_slice.ensures
    ∙ (ap (λ (us : List (Option ActiveTask)). first_run_out c.args.now c.self.inside.defs us) c.deref.ensures.value
    ∙ represents-expired _ s c.args.now (subst (λ v. RepresentsTable v s) (sym c.self.view_is) h)))
