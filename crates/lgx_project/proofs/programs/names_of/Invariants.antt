use Rattle.std.proofs.Common.{◌≡◌, map, take}
use Rattle.lgx_project.proofs.programs.names_of.Given as goal

abbrev pub invariant-loop-i : goal.invariant-loop-i
invariant-loop-i l = l.names.items ≡ map (λ r. r.name) (take l.i l.program.routines)
