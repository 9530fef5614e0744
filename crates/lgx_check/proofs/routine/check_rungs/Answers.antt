use Rattle.std.proofs.Common.{◌≡◌, ◌+◌, ◌<◌, ℕ, List, length, get_or, subst, sym, Err}
use Rattle.std.proofs.lemmas.Result.{err_from_is_err_and}
use Rattle.lgx_rung.specs.Tree.{Source, Tree}
use Rattle.lgx_rung.specs.declared.ins.Ins.{Ins}
use Rattle.spec_language.specs.Checked.{CheckScope, checked}
use Rattle.lgx_check.specs.Answers.{AnswersCheck}
use Rattle.lgx_check.specs.declared.error.CheckError.{CheckError}
use Rattle.lgx_check.specs.declared.error.CheckError.TheVariants.{Check, Memory}
use Rattle.lgx_check.specs.Progress.{Progress, Checks, checked_now}
use Rattle.lgx_check.proofs.Progress.{checks_more, checks_refused}
use Rattle.lgx_check.proofs.routine.check_rungs.Goals as goal

-- what refuses a rung refuses the routine
refused : (scope : CheckScope) (rungs : List Source) (n : ℕ) (r : Source) (made : List (Tree Ins)) (e : CheckError) (p : Progress) → Checks scope rungs n made p → n < length rungs → r ≡ get_or rungs n r
    → AnswersCheck (checked_now n r p) (Err e) → AnswersCheck (checked scope rungs) (Err e)
refused scope rungs n r made (Check fault) p are h is m = checks_refused scope rungs n r made fault p are h is m
refused scope rungs n r made Memory p are h is m = tt

pub returns-in_err-check : goal.returns-in_err-check
returns-in_err-check c =
    let rungs = c.args.rungs.now in
    let p = err_from_is_err_and c.from_residual-in_err-check.result c.from_residual-in_err-check.ensures.1 in
    rw (p.1, p.2)
    (refused c.args.checker.now.scope rungs c.loop-number.number c.index-rungs-number.result c.loop-number.made.items c.in_err-check.field-0.0 c.loop-number.checker
    c.loop-number.invariant c.loop-number-test.true c.index-rungs-number.is c.in_err-check.ensures.answer)

pub loop-number-preserved : goal.loop-number-preserved
loop-number-preserved c =
    let rungs = c.args.rungs.now in
    subst (λ (made : List (Tree Ins)). Checks c.args.checker.now.scope rungs (c.loop-number.number + 1) made c.check.new.self) (sym {A = List (Tree Ins)} c.in_ok-push.ensures.items)
    (checks_more c.args.checker.now.scope rungs c.loop-number.number c.index-rungs-number.result c.loop-number.made.items c.in_ok-check.field-0 c.loop-number.checker c.check.new.self
    c.loop-number.invariant c.loop-number-test.true c.index-rungs-number.is c.in_ok-check.ensures.answer c.in_ok-check.ensures.after)
