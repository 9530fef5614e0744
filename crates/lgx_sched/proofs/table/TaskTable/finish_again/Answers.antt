-- Nothing is open, so the task's new state is all that changes; and nothing does if it has that state.
use Rattle.std.proofs.Common.{Some, ◌∙◌, ap, subst, sym}
use Rattle.spec_tables.specs.Tasks.{finish}
use Rattle.lgx_sched.specs.TableView.{TableView}
use Rattle.lgx_sched.specs.Represents.{RepresentsTable}
use Rattle.lgx_sched.proofs.Again.{restarted-same, restarted-with, represents-finish_again, chosen-finish_again}
use Rattle.lgx_sched.proofs.table.TaskTable.finish_again.Goals as goal

pub returns-clause-exact : goal.returns-clause-exact
returns-clause-exact c = c.change.ensures.exact ∙ restarted-with c.args.self.now c.args.t c.args.now c.requires.again

pub returns-clause-represents : goal.returns-clause-represents
returns-clause-represents c = λ s h.
    subst (λ (v : TableView). RepresentsTable v (finish c.args.t c.args.now s)) (sym (c.change.ensures.exact ∙ restarted-with c.args.self.now c.args.t c.args.now c.requires.again))
    (represents-finish_again c.args.self.now s c.args.t c.args.now c.change.ensures.table h c.requires.chosen c.requires.again)

pub returns-clause-chosen : goal.returns-clause-chosen
returns-clause-chosen c = λ s h. chosen-finish_again c.args.self.now s c.args.t c.args.now c.change.ensures.table h c.requires.chosen c.requires.again

pub returns-then-same_active-clause-exact : goal.returns-then-same_active-clause-exact
returns-then-same_active-clause-exact c =
    restarted-same c.args.self.now c.args.t c.args.now (c.active_task.ensures.up ∙ ap (λ a. Some a) (c.same_active.ensures c.if-same_active.true))

pub returns-then-same_active-clause-represents : goal.returns-then-same_active-clause-represents
returns-then-same_active-clause-represents c = λ s h.
    subst (λ (v : TableView). RepresentsTable v (finish c.args.t c.args.now s)) (sym (restarted-same c.args.self.now c.args.t c.args.now (c.active_task.ensures.up ∙ ap (λ a. Some a) (c.same_active.ensures c.if-same_active.true))))
    (represents-finish_again c.args.self.now s c.args.t c.args.now c.active_task.ensures.table h c.requires.chosen c.requires.again)

pub returns-then-same_active-clause-chosen : goal.returns-then-same_active-clause-chosen
returns-then-same_active-clause-chosen c = λ s h. chosen-finish_again c.args.self.now s c.args.t c.args.now c.active_task.ensures.table h c.requires.chosen c.requires.again
