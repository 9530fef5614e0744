-- The rungs so far are joined.
use Rattle.std.proofs.Common.{take}
use Rattle.lgx_prog.specs.Joining.{Joins}
use Rattle.lgx_edit.specs.Shared.{checkeds}
use Rattle.lgx_edit.proofs.fresh.joined.Given as goal

abbrev pub invariant-loop-rung : goal.invariant-loop-rung
invariant-loop-rung l = Joins l.joining (checkeds (take l.rung-index l.rungs))
