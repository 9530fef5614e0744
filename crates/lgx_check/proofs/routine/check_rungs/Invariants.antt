use Rattle.lgx_check.specs.Progress.{Checks}
use Rattle.lgx_check.proofs.routine.check_rungs.Given as goal

abbrev pub invariant-loop-number : goal.invariant-loop-number
invariant-loop-number l = Checks l.fn.checker.scope l.rungs l.number l.made.items l.checker
