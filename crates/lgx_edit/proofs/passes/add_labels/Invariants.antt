-- The labels of the rungs so far are added.
use Rattle.lgx_check.specs.Progress.{HasLabels}
use Rattle.lgx_edit.specs.Picks.{pick_sources}
use Rattle.lgx_edit.proofs.passes.add_labels.Given as goal

abbrev pub invariant-loop-number : goal.invariant-loop-number
invariant-loop-number l = HasLabels l.fn.checker.scope (pick_sources l.picks) l.number l.checker
