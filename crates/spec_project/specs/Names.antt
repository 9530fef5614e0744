-- Names of a project that are repeated, and main routines that aren't there.
use Rattle.std.specs.Prelude.{ℕ, not, List, map, take, Option, codes}
use Rattle.std.specs.List.{list_any}
use Rattle.lgx_num.specs.Name.{same}
use Rattle.spec_project.specs.declared.fault.ProjectFault.{ProjectFault}
use Rattle.spec_project.specs.declared.fault.ProjectCode.TheVariants.{P5, P6}
use Rattle.spec_project.specs.declared.described.Described.{Described}
use Rattle.spec_project.specs.declared.described.DescribedProgram.{DescribedProgram}
use Rattle.spec_project.specs.Faults.{or_else, here, in_field, at_place, refused_if, first_of, first_at}

-- P6: the name is the same as an earlier one of the list
abbrev pub name_fault : List (List ℕ) → ℕ → List ℕ → Option ProjectFault
name_fault names i name =
    at_place i (in_field (codes "name") (refused_if (list_any (λ earlier. same earlier name) (take i names)) (here P6)))

abbrev pub repeated_name : List (List ℕ) → Option ProjectFault
repeated_name names = first_of (name_fault names) names

abbrev pub program_names : Described → List (List ℕ)
program_names p = map (λ q. q.name) p.programs

abbrev pub routine_names : DescribedProgram → List (List ℕ)
routine_names q = map (λ r. r.name) q.routines

abbrev pub task_names : Described → List (List ℕ)
task_names p = map (λ t. t.name) p.tasks

abbrev pub connection_names : Described → List (List ℕ)
connection_names p = map (λ c. c.name) p.connections

abbrev pub repeated_routine : DescribedProgram → Option ProjectFault
repeated_routine q = in_field (codes "routines") (repeated_name (routine_names q))

-- P5: no routine of the program has the name of the main one
abbrev pub main_fault : DescribedProgram → Option ProjectFault
main_fault q = in_field (codes "main") (refused_if (not (list_any (λ name. same name q.main) (routine_names q))) (here P5))

-- of the programs, of the routines of each, of the tasks and of the connections; and then the main routines
unfoldable pub names_fault : Described → Option ProjectFault
names_fault p =
    or_else (in_field (codes "programs") (repeated_name (program_names p)))
    (or_else (in_field (codes "programs") (first_at repeated_routine p.programs))
    (or_else (in_field (codes "tasks") (repeated_name (task_names p)))
    (or_else (in_field (codes "connections") (repeated_name (connection_names p)))
    (in_field (codes "programs") (first_at main_fault p.programs)))))
