-- The answer that a release has once all are down.
use Rattle.std.proofs.Common.{None, ap, ◌∙◌, sym}
use Rattle.lgx_sched.specs.TableView.{TableView, answer_of}
use Rattle.spec_tables.specs.Tasks.{if_released}
use Rattle.lgx_sched.proofs.Calls.{represents-released_at_run, first_continuous}
use Rattle.lgx_sched.proofs.table.TaskTable.released_at_run.Goals as goal

pub returns-clause-represents : goal.returns-clause-represents
returns-clause-represents c = λ s h.
    represents-released_at_run c.args.self.now s c.in_ok-t.t _ h
    (ap (λ (v : TableView). first_continuous v.defs) (sym c.self.view_is) ∙ (ap first_continuous (sym c.as_slice.ensures) ∙ (sym c.continuous_task.ensures.value ∙ c.in_ok-t.was)))
    (c.if_released.ensures ∙ ap (λ a. if_released a c.in_ok-t.t) (c.answer_of.ensures ∙ ap (λ d. answer_of d None) c.def.ensures))
