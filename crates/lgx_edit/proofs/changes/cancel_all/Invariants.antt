-- The routines before the index are done.
use Rattle.std.proofs.Common.{◌≡◌, ◌++◌, drop, take, map}
use Rattle.lgx_edit.specs.Texts.{cancelled}
use Rattle.lgx_edit.proofs.changes.cancel_all.Given as goal

abbrev pub invariant-loop-routine : goal.invariant-loop-routine
invariant-loop-routine l = l.routines ≡ map cancelled (take l.routine-index l.fn.routines) ++ drop l.routine-index l.fn.routines
