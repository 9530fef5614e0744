-- What is left after all routines is what is left now after the others.
use Rattle.std.proofs.Common.{◌≡◌, ◌-◌, drop, map}
use Rattle.spec_machine.specs.Edits.{instruction_count}
use Rattle.lgx_edit.specs.Texts.{routine_of}
use Rattle.lgx_project.proofs.count.left_by_routines.Given as goal

abbrev pub invariant-loop-i : goal.invariant-loop-i
invariant-loop-i l = l.left - instruction_count (map routine_of (drop l.i l.routines)) ≡ l.fn.left - instruction_count (map routine_of l.routines)
