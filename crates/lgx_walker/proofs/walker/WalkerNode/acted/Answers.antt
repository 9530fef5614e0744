-- By the lane's due action.
use Rattle.std.proofs.Common.{◌≡◌, ap, subst}
use Rattle.std.specs.Prelude.{IfSome, option_copied}
use Rattle.lgx_explore.proofs.Closing.{err_on}
use Rattle.lgx_walker.specs.declared.trail.Trail.{Trail}
use Rattle.lgx_walker.specs.Trails.{with_action}
use Rattle.lgx_walker.proofs.Walking.{told_due, none_due, late_action, action_made, action_shows, counted_late, counted_in_time, shown_by}
use Rattle.lgx_walker.proofs.walker.WalkerNode.acted.Goals as goal

pub returns-in_default-clause-none : goal.returns-in_default-clause-none
returns-in_default-clause-none c =
    none_due c.args.script.now c.args.question.now c.law_of_scripts.ensures c.args.self.now c.args.lane (option_copied c.due_action.result) (ap option_copied c.in_default.is)
    (told_due c.args.script.now c.args.question.now c.law_of_scripts.ensures c.args.self.now c.args.lane _ _ _ c.as_slice.ensures c.count_of-done.ensures c.due_action.ensures)

pub returns-then-is_late_now-clause-none : goal.returns-then-is_late_now-clause-none
returns-then-is_late_now-clause-none c =
    late_action c.args.script.now c.args.question.now c.law_of_scripts.ensures c.args.self.now c.args.lane (option_copied c.due_action.result) c.in-Some.action.now (ap option_copied c.in-Some.is)
    (told_due c.args.script.now c.args.question.now c.law_of_scripts.ensures c.args.self.now c.args.lane _ _ _ c.as_slice.ensures c.count_of-done.ensures c.due_action.ensures)
    (counted_late c.args.script.now c.args.question.now c.law_of_scripts.ensures c.args.self.now c.args.lane c.in-Some-2.trail _ (subst (λ o. IfSome o (λ (t : Trail). t ≡ with_action c.args.self.now.trail c.args.lane)) c.in-Some-2.is c.in_ok-trail.ensures) c.as_slice-2.ensures (c.is_late_now.ensures.some c.if-is_late_now.true))

pub returns-in_err-watcher-clause-shown : goal.returns-in_err-watcher-clause-shown
returns-in_err-watcher-clause-shown c =
    err_on c.from_residual-in_err-watcher.result _ _ c.from_residual-in_err-watcher.ensures.1
    (shown_by _
    (action_shows c.args.script.now c.args.question.now c.law_of_scripts.ensures c.args.self.now c.args.lane (option_copied c.due_action.result) c.in-Some.action.now (ap option_copied c.in-Some.is)
    (told_due c.args.script.now c.args.question.now c.law_of_scripts.ensures c.args.self.now c.args.lane _ _ _ c.as_slice.ensures c.count_of-done.ensures c.due_action.ensures)
    (counted_in_time c.args.script.now c.args.question.now c.law_of_scripts.ensures c.args.self.now c.args.lane c.in-Some-2.trail _ (subst (λ o. IfSome o (λ (t : Trail). t ≡ with_action c.args.self.now.trail c.args.lane)) c.in-Some-2.is c.in_ok-trail.ensures) c.as_slice-2.ensures (c.is_late_now.ensures.none c.if-is_late_now.false)))
    c.in_err-watcher.ensures.shown)

pub returns-clause-acted : goal.returns-clause-acted
returns-clause-acted c =
    let trail = subst (λ o. IfSome o (λ (t : Trail). t ≡ with_action c.args.self.now.trail c.args.lane)) c.in-Some-2.is c.in_ok-trail.ensures in
    action_made c.args.script.now c.args.question.now c.law_of_scripts.ensures c.args.self.now c.args.lane (option_copied c.due_action.result) c.in-Some.action.now (ap option_copied c.in-Some.is)
    (told_due c.args.script.now c.args.question.now c.law_of_scripts.ensures c.args.self.now c.args.lane _ _ _ c.as_slice.ensures c.count_of-done.ensures c.due_action.ensures)
    _ trail
    (counted_in_time c.args.script.now c.args.question.now c.law_of_scripts.ensures c.args.self.now c.args.lane c.in-Some-2.trail _ trail c.as_slice-2.ensures (c.is_late_now.ensures.none c.if-is_late_now.false))
    (λ p journal w. c.forget_marks.ensures p _ (c.in_ok-watcher.ensures.watches p journal w))
    c.in_ok-watcher.ensures.clear
