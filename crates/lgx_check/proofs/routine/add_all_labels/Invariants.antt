use Rattle.lgx_check.specs.Progress.{HasLabels}
use Rattle.lgx_check.proofs.routine.add_all_labels.Given as goal

abbrev pub invariant-loop-number : goal.invariant-loop-number
invariant-loop-number l = HasLabels l.fn.checker.scope l.rungs l.number l.checker
