-- By the script's steps.
use Rattle.std.proofs.Common.{◌+◌, ◌%◌, nat_eq, sym, ap}
use Rattle.spec_text.specs.Scripts.{Script}
use Rattle.lgx_explore.proofs.Closing.{err_on}
use Rattle.lgx_walker.proofs.Walking.{late_step, step_shows, step_made, shown_by}
use Rattle.lgx_walker.proofs.walker.WalkerNode.step.Goals as goal

pub returns-then-is_late_by_step-clause-none : goal.returns-then-is_late_by_step-clause-none
returns-then-is_late_by_step-clause-none c = λ made.
    late_step c.args.script.now c.args.question.now c.law_of_scripts.ensures c.args.self.now c.is_spent.result c.if-is_spent.false c.is_spent.ensures _ (ap (λ (s : Script). nat_eq ((c.args.self.now.trail.steps + 1) % s.pace) 0) (sym c.script.view_is))
    (c.is_late_by_step.ensures.has_tick c.if-is_late_by_step.true) (c.is_late_by_step.ensures.some c.if-is_late_by_step.true)

pub returns-in_err-step_on-clause-shown : goal.returns-in_err-step_on-clause-shown
returns-in_err-step_on-clause-shown c =
    err_on c.from_residual.result _ _ c.from_residual.ensures.1
    (shown_by _
    (step_shows c.args.script.now c.args.question.now c.law_of_scripts.ensures c.args.self.now c.is_spent.result c.if-is_spent.false c.is_spent.ensures _ (ap (λ (s : Script). nat_eq ((c.args.self.now.trail.steps + 1) % s.pace) 0) (sym c.script.view_is))
    (c.is_late_by_step.ensures.none c.if-is_late_by_step.false))
    c.in_err-step_on.ensures.shown)

pub returns-clause-stepped : goal.returns-clause-stepped
returns-clause-stepped c =
    λ made. step_made c.args.script.now c.args.question.now c.law_of_scripts.ensures c.args.self.now c.is_spent.result c.if-is_spent.false c.is_spent.ensures _ (ap (λ (s : Script). nat_eq ((c.args.self.now.trail.steps + 1) % s.pace) 0) (sym c.script.view_is))
    _ c.add_step.ensures (c.is_late_by_step.ensures.none c.if-is_late_by_step.false)
    (λ p journal w. c.forget_marks.ensures p _ (c.in_ok-step_on.ensures.watches p journal w))
    c.in_ok-step_on.ensures.clear
