-- Which programs run in which task, and what of it is refused.
use Rattle.std.specs.Prelude.{ℕ, not, ◌&&◌, Bool, List, map, filter_map, position, take, Option, length, is_none, codes}
use Rattle.std.specs.List.{list_any, range_with_len}
use Rattle.lgx_num.specs.Name.{same}
use Rattle.spec_tables.specs.Tasks.{is_continuous}
use Rattle.spec_machine.specs.ValidProject.{is_listed_once}
use Rattle.spec_project.specs.declared.fault.ProjectFault.{ProjectFault}
use Rattle.spec_project.specs.declared.fault.ProjectCode.TheVariants.{P5, P7, P8}
use Rattle.spec_project.specs.declared.described.Described.{Described}
use Rattle.spec_project.specs.declared.described.DescribedTask.{DescribedTask}
use Rattle.spec_project.specs.Faults.{or_else, here, in_field, at_place, refused_if, first_of, first_at}
use Rattle.spec_project.specs.Names.{program_names}

-- the number of the program of a name
abbrev pub program_named : Described → List ℕ → Option ℕ
program_named p name = position (λ n. same n name) (program_names p)

-- P5: no program has the name
abbrev pub unknown_program : Described → List ℕ → Option ProjectFault
unknown_program p name = refused_if (is_none (program_named p name)) (here P5)

abbrev pub is_continuous_task : DescribedTask → Bool
is_continuous_task t = is_continuous t.def.kind

-- P5 of its programs; and then P8: it is a second continuous task
abbrev pub task_fault : Described → ℕ → DescribedTask → Option ProjectFault
task_fault p i t =
    at_place i
    (or_else (in_field (codes "programs") (first_at (unknown_program p) t.programs))
    (refused_if (is_continuous_task t && list_any is_continuous_task (take i p.tasks)) (here P8)))

-- for each task the numbers of its programs, in order
abbrev pub schedule : Described → List (List ℕ)
schedule p = map (λ t. filter_map (program_named p) t.programs) p.tasks

-- P7: the program isn't in one task's list, once
abbrev pub unscheduled : Described → ℕ → ℕ → Option ProjectFault
unscheduled p i n = at_place i (refused_if (not (is_listed_once (schedule p) n)) (here P7))

unfoldable pub tasks_fault : Described → Option ProjectFault
tasks_fault p =
    or_else (in_field (codes "tasks") (first_of (task_fault p) p.tasks))
    (in_field (codes "programs") (first_of (unscheduled p) (range_with_len 0 (length p.programs))))
