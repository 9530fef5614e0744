-- All tasks are down, and then the first continuous one is released.
use Rattle.std.proofs.Common.{ap, ◌∙◌, subst, sym}
use Rattle.lgx_sched.specs.TableView.{TableView}
use Rattle.lgx_sched.specs.Represents.{RepresentsTable}
use Rattle.lgx_sched.proofs.Calls.{represents-start_some, represents-start_none, first_continuous}
use Rattle.lgx_sched.proofs.table.TaskTable.start.Goals as goal

pub returns-in-Some-clause-represents : goal.returns-in-Some-clause-represents
returns-in-Some-clause-represents c = λ s h.
    represents-start_some c.args.self.now _ s c.args.now c.in-Some.t h
    (ap (λ (v : TableView). first_continuous v.defs) (sym c.put_all_down.ensures.exact) ∙ (ap (λ (v : TableView). first_continuous v.defs) (sym c.self.view_is) ∙ (ap first_continuous (sym c.as_slice.ensures) ∙ (sym c.continuous_task.ensures.value ∙ c.in-Some.is))))
    (λ x k. c.release.ensures.represents x (subst (λ (v : TableView). RepresentsTable v x) (sym c.put_all_down.ensures.exact) k))

pub returns-in_default-clause-represents : goal.returns-in_default-clause-represents
returns-in_default-clause-represents c = λ s h.
    represents-start_none c.args.self.now _ s c.args.now h
    (ap (λ (v : TableView). first_continuous v.defs) (sym c.put_all_down.ensures.exact) ∙ (ap (λ (v : TableView). first_continuous v.defs) (sym c.self.view_is) ∙ (ap first_continuous (sym c.as_slice.ensures) ∙ (sym c.continuous_task.ensures.value ∙ c.in_default.is))))
    c.put_all_down.ensures.exact
