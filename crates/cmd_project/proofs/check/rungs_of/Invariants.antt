use Rattle.std.proofs.Common.{◌≡◌, length, take}
use Rattle.std.specs.Prelude.{sum_by}
use Rattle.lgx_edit.specs.declared.texts.RoutineText.{RoutineText}
use Rattle.cmd_project.proofs.check.rungs_of.Given as goal

abbrev pub invariant-loop-routine : goal.invariant-loop-routine
invariant-loop-routine l = l.count ≡ sum_by (λ (r : RoutineText). length r.source) (take l.routine-index l.routines)
