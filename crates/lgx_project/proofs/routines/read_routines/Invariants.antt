use Rattle.std.proofs.Common.{◌≡◌, map, take, drop}
use Rattle.spec_project.specs.Faults.{at_place, first_at, first_from}
use Rattle.spec_project.specs.Routines.{routine_fault}
use Rattle.lgx_check.specs.Scopes.{scope_of}
use Rattle.lgx_project.specs.Programs.{read_as}
use Rattle.lgx_project.proofs.routines.read_routines.Given as goal

abbrev pub invariant-loop-i : goal.invariant-loop-i
invariant-loop-i l = record {
  goes : first_from (λ i x. at_place i (routine_fault (scope_of l.scope) x)) l.i (drop l.i l.routines) ≡ first_at (routine_fault (scope_of l.scope)) l.routines;
  made : l.made.items ≡ map (read_as (scope_of l.scope)) (take l.i l.routines);
}
