-- The routines before the index are done.
use Rattle.std.proofs.Common.{◌≡◌, ◌++◌, drop, take, map}
use Rattle.lgx_edit.specs.Texts.{assembled}
use Rattle.lgx_edit.proofs.changes.assemble_all.Given as goal

abbrev pub invariant-loop-routine : goal.invariant-loop-routine
invariant-loop-routine l = l.routines ≡ map assembled (take l.routine-index l.fn.routines) ++ drop l.routine-index l.fn.routines
