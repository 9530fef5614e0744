use Rattle.std.proofs.Common.{◌≡◌, ap, subst, ◌∙◌}
use Rattle.spec_language.specs.Checked.{checked}
use Rattle.lgx_check.specs.Answers.{AnswersCheck}
use Rattle.lgx_check.specs.Progress.{Progress}
use Rattle.lgx_check.specs.Scopes.{scope_of}
use Rattle.lgx_check.proofs.Laws.{executable_of, tasks_of}
use Rattle.lgx_check.proofs.routine.check_routine.Goals as goal

pub returns-clause-executable : goal.returns-clause-executable
returns-clause-executable c =
    let scope : c.add_all_labels.new.checker.scope ≡ scope_of c.args.scope.now = c.in_ok-add_all_labels.ensures.same_scope ∙ ap (λ (p : Progress). p.scope) c.in_ok-checker.ensures in
    let answer : AnswersCheck (checked (scope_of c.args.scope.now) c.args.rungs.now) c.check_rungs.result = subst (λ s. AnswersCheck (checked s c.args.rungs.now) c.check_rungs.result) scope c.check_rungs.ensures in
    executable_of (scope_of c.args.scope.now) c.args.rungs.now c.check_rungs.result c.checked_rungs_are_executable.ensures c.types.ensures.sound answer

pub returns-clause-tasks : goal.returns-clause-tasks
returns-clause-tasks c =
    let scope : c.add_all_labels.new.checker.scope ≡ scope_of c.args.scope.now = c.in_ok-add_all_labels.ensures.same_scope ∙ ap (λ (p : Progress). p.scope) c.in_ok-checker.ensures in
    let answer : AnswersCheck (checked (scope_of c.args.scope.now) c.args.rungs.now) c.check_rungs.result = subst (λ s. AnswersCheck (checked s c.args.rungs.now) c.check_rungs.result) scope c.check_rungs.ensures in
    tasks_of (scope_of c.args.scope.now) c.args.rungs.now c.check_rungs.result c.checked_rungs_know_tasks.ensures answer
