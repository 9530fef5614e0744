-- Programs in tasks' lists, by an index of the programs' names.
use Rattle.std.specs.Prelude.{ℕ, ◌&&◌, not, ◌==◌, count_by, is_none, List, take, flat_map, filter_map, position, Option, codes}
use Rattle.std.specs.List.{list_any}
use Rattle.lgx_num.specs.Name.{same}
use Rattle.spec_project.specs.declared.fault.ProjectFault.{ProjectFault}
use Rattle.spec_project.specs.declared.fault.ProjectCode.TheVariants.{P5, P7, P8}
use Rattle.spec_project.specs.declared.described.DescribedTask.{DescribedTask}
use Rattle.spec_project.specs.Faults.{or_else, at_place, here, in_field, refused_if, first_at}
use Rattle.spec_project.specs.Schedules.{is_continuous_task}

-- the numbers of the programs of these names; a name that no program has gives none
abbrev pub numbers_of : List (List ℕ) → List (List ℕ) → List ℕ
numbers_of programs names = filter_map (λ name. position (λ n. same n name) programs) names

abbrev pub listed : List (List ℕ) → List DescribedTask → List ℕ
listed programs tasks = flat_map (λ t. numbers_of programs t.programs) tasks

abbrev pub name_fault_among : List (List ℕ) → List ℕ → Option ProjectFault
name_fault_among programs name = refused_if (is_none (position (λ n. same n name) programs)) (here P5)

abbrev pub task_fault_among : List (List ℕ) → List DescribedTask → ℕ → DescribedTask → Option ProjectFault
task_fault_among programs tasks i t =
    or_else (in_field (codes "programs") (first_at (name_fault_among programs) t.programs))
    (refused_if (is_continuous_task t && list_any is_continuous_task (take i tasks)) (here P8))

-- P7: the number isn't once in the list
abbrev pub unlisted : List ℕ → ℕ → ℕ → Option ProjectFault
unlisted list i n = at_place i (refused_if (not (count_by (λ m. m == n) list == 1)) (here P7))
