-- Programs with their rungs, as they are read.
use Rattle.std.specs.Prelude.{ℕ, List, map, Option, codes}
use Rattle.std.specs.List.{enumerate_from}
use Rattle.spec_language.specs.declared.names.TaskName.{TaskName}
use Rattle.spec_language.specs.Checked.{CheckScope}
use Rattle.spec_language.specs.Declarations.{Declarations}
use Rattle.spec_project.specs.declared.described.DescribedProgram.{DescribedProgram}
use Rattle.spec_project.specs.declared.described.DescribedRoutine.{DescribedRoutine}
use Rattle.spec_project.specs.declared.fault.ProjectFault.{ProjectFault}
use Rattle.spec_project.specs.Faults.{at_place, first_at, in_field}
use Rattle.spec_project.specs.Names.{routine_names}
use Rattle.spec_project.specs.Routines.{main_of, routine_fault, rungs_of, source_of}
use Rattle.lgx_edit.specs.declared.texts.RoutineText.{RoutineText}
use Rattle.lgx_edit.specs.declared.texts.ProgramText.{ProgramText}

abbrev pub read_as : CheckScope → DescribedRoutine → RoutineText
read_as scope r = record { name = r.name; source = source_of r; checked = rungs_of scope r }

-- what a program's rungs are checked against
abbrev pub scope_in : Declarations → List TaskName → ℕ → DescribedProgram → CheckScope
scope_in tags tasks n q = record { tags = tags; program = n; routines = routine_names q; tasks = tasks }

abbrev pub program_as : CheckScope → DescribedProgram → ProgramText
program_as scope q = record { name = q.name; routines = map (read_as scope) q.routines; main = main_of q }

-- P10 of a program, by its number, and programs in order, where the first has this number
abbrev pub program_fault_in : Declarations → List TaskName → ℕ → DescribedProgram → Option ProjectFault
program_fault_in tags tasks n q = at_place n (in_field (codes "routines") (first_at (routine_fault (scope_in tags tasks n q)) q.routines))

abbrev pub programs_from : Declarations → List TaskName → ℕ → List DescribedProgram → List ProgramText
programs_from tags tasks n qs = map (λ e. program_as (scope_in tags tasks e.0 e.1) e.1) (enumerate_from n qs)
