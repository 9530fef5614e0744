-- What is left after all programs is what is left now after the others.
use Rattle.std.proofs.Common.{◌≡◌, ◌-◌, drop, map}
use Rattle.lgx_edit.specs.Texts.{program_of}
use Rattle.lgx_project.specs.Counting.{instructions_of}
use Rattle.lgx_project.proofs.count.left_by_programs.Given as goal

abbrev pub invariant-loop-i : goal.invariant-loop-i
invariant-loop-i l = l.left - instructions_of (map program_of (drop l.i l.programs)) ≡ l.fn.left - instructions_of (map program_of l.programs)
