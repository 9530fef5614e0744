use Rattle.std.proofs.Common.{◌≡◌, ◌-◌, length, map}
use Rattle.lgx_edit.specs.Texts.{program_of}
use Rattle.cmd_project.specs.TextLeft.{programs_left}
use Rattle.cmd_project.proofs.lines.programs_line.Given as goal

abbrev pub invariant-loop-at : goal.invariant-loop-at
invariant-loop-at l = programs_left (map program_of l.programs) l.initial.at l.initial.place ≡ programs_left (map program_of l.programs) l.at l.place

abbrev pub decreases-loop-at : goal.decreases-loop-at
decreases-loop-at l = length l.programs - l.at
