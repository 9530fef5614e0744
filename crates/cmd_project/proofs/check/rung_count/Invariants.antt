use Rattle.std.proofs.Common.{◌≡◌, length, take}
use Rattle.std.specs.Prelude.{sum_by}
use Rattle.lgx_edit.specs.declared.texts.ProgramText.{ProgramText}
use Rattle.cmd_project.proofs.check.rung_count.Given as goal

abbrev pub invariant-loop-program : goal.invariant-loop-program
invariant-loop-program l = l.count ≡ sum_by (λ (p : ProgramText). sum_by (λ r. length r.source) p.routines) (take l.program-index l.programs)
