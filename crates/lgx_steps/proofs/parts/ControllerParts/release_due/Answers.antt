use Rattle.std.proofs.Common.{◌≡◌, List, length, ap, ◌∙◌, subst, arith}
use Rattle.lgx_steps.specs.PartsView.{view_of}
use Rattle.std.specs.Prelude.{fold}
use Rattle.std.specs.List.{range_with_len}
use Rattle.spec_tables.specs.declared.task.TaskDef.{TaskDef}
use Rattle.spec_machine.specs.Ticks.{release_if_due, quiet}
use Rattle.lgx_steps.specs.Gives.{ViewGives}
use Rattle.lgx_steps.proofs.Ticking.{gives-more}
use Rattle.lgx_steps.proofs.parts.ControllerParts.release_due.Goals as goal

pub loop-t-preserved : goal.loop-t-preserved
loop-t-preserved c = record {
  live = c.release_if_due-report.ensures.live;
  tasks = c.release_if_due-report.ensures.tasks ∙ c.loop-t.invariant.tasks;
  below = c.release_if_due-report.ensures.below;
  gives = λ n s h. gives-more n (view_of c.loop-t.self) (view_of c.release_if_due-report.new.self) c.loop-t.report c.release_if_due-report.result c.loop-t.t (record { state = s; answer = quiet }) (c.loop-t.invariant.gives n s h) c.release_if_due-report.ensures.gives;
  image = c.release_if_due-report.ensures.image ∙ c.loop-t.invariant.image;
}

pub returns-clause-gives : goal.returns-clause-gives
returns-clause-gives c = λ n s h.
    let many : c.len-t-end.result ≡ length s.table.defs = c.len-t-end.ensures.value ∙ ap (λ (ds : List TaskDef). length ds) h.table.defs in
    let all : c.loop-t.t ≡ length s.table.defs = omega (arith, c.loop-t-test.false, c.loop-t.auto.t-end) in
    subst (λ i. ViewGives n (view_of c.loop-t.self) c.loop-t.report (fold release_if_due (record { state = s; answer = quiet }) (range_with_len 0 i))) all (c.loop-t.invariant.gives n s h)
