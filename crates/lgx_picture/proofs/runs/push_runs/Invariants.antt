use Rattle.std.proofs.Common.{◌≡◌, ◌++◌, length}
use Rattle.lgx_picture.specs.Marks.{runs_of, run_texts}
use Rattle.lgx_picture.proofs.runs.push_runs.Given as goal

abbrev pub invariant-loop-rest : goal.invariant-loop-rest
invariant-loop-rest l =
    l.text.items ++ run_texts l.scale l.top (runs_of l.rest) ≡ l.initial.text.items ++ run_texts l.scale l.top (runs_of l.marks)

abbrev pub decreases-loop-rest : goal.decreases-loop-rest
decreases-loop-rest l = length l.rest
