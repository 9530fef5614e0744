-- The first routine of the name is among those from the index on.
use Rattle.std.proofs.Common.{◌≡◌, drop}
use Rattle.lgx_project.proofs.Mains.{main_from}
use Rattle.lgx_project.proofs.programs.main_number.Given as goal

abbrev pub invariant-loop-i : goal.invariant-loop-i
invariant-loop-i l = main_from l.program 0 l.program.routines ≡ main_from l.program l.i (drop l.i l.program.routines)
