-- The front of the queues is the chosen task.
use Rattle.std.proofs.Common.{◌<◌, ℕ, length, Option, Some, IfSome, sym, ◌∙◌, ap, subst}
use Rattle.spec_tables.specs.Tasks.{or_else}
use Rattle.lgx_sched.specs.TableView.{TableView, front_of}
use Rattle.lgx_sched.specs.Represents.{RepresentsTable}
use Rattle.lgx_sched.proofs.Tables.{known_next}
use Rattle.lgx_sched.proofs.Chosen.{next_task-chosen}
use Rattle.lgx_sched.proofs.table.TaskTable.chosen.Goals as goal

pub returns-in-Some-clause-known : goal.returns-in-Some-clause-known
returns-in-Some-clause-known c =
    subst (λ (v : TableView). c.in-Some.t < length v.defs) c.self.view_is
    (known_next _ (Some c.in-Some.t) c.self.invariant.table (ap (λ (o : Option ℕ). or_else o (front_of c.self.inside.queues)) (sym c.in-Some.is)))

pub returns-in-None-clause-known : goal.returns-in-None-clause-known
returns-in-None-clause-known c =
    subst (λ (v : TableView). IfSome c.front.result (λ t. t < length v.defs)) c.self.view_is
    (known_next _ c.front.result c.self.invariant.table (c.front.ensures ∙ ap (λ (o : Option ℕ). or_else o (front_of c.self.inside.queues)) (sym c.in-None.is)))

pub returns-in-Some-clause-represents : goal.returns-in-Some-clause-represents
returns-in-Some-clause-represents c = λ s h.
    ap (λ (o : Option ℕ). or_else o (front_of c.self.inside.queues)) (sym c.in-Some.is)
    ∙ next_task-chosen _ s c.self.invariant.table.0 (subst (λ v. RepresentsTable v s) (sym c.self.view_is) h)

pub returns-in-None-clause-represents : goal.returns-in-None-clause-represents
returns-in-None-clause-represents c = λ s h.
    c.front.ensures
    ∙ (ap (λ (o : Option ℕ). or_else o (front_of c.self.inside.queues)) (sym c.in-None.is)
    ∙ next_task-chosen _ s c.self.invariant.table.0 (subst (λ v. RepresentsTable v s) (sym c.self.view_is) h))
