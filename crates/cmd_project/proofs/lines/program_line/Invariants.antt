use Rattle.std.proofs.Common.{◌≡◌, ◌-◌, length}
use Rattle.lgx_edit.specs.Texts.{program_of}
use Rattle.cmd_project.specs.TextLeft.{program_left}
use Rattle.cmd_project.proofs.lines.program_line.Given as goal

abbrev pub invariant-loop-place : goal.invariant-loop-place
invariant-loop-place l = program_left l.initial.place (program_of l.program) ≡ program_left l.place (program_of l.program)

abbrev pub decreases-loop-place : goal.decreases-loop-place
decreases-loop-place l = length l.routines - l.place.routine
