use Rattle.std.proofs.Common.{◌≡◌, map, take}
use Rattle.lgx_project.proofs.tasks.task_defs.Given as goal

abbrev pub invariant-loop-i : goal.invariant-loop-i
invariant-loop-i l = l.defs.items ≡ map (λ t. t.def) (take l.i l.file.tasks)
