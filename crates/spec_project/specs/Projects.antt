-- The project that a file gives, or its first refusal.
use Rattle.std.specs.Prelude.{ℕ, List, map, filter_map, Option, Some, None, Result, Ok, Err}
use Rattle.serde_json.specs.Data.{Data}
use Rattle.spec_machine.specs.Project.{Project}
use Rattle.spec_project.specs.declared.fault.ProjectFault.{ProjectFault}
use Rattle.spec_project.specs.declared.fault.ProjectCode.TheVariants.{P1}
use Rattle.spec_project.specs.declared.described.Described.{Described}
use Rattle.spec_project.specs.Faults.{or_else, here}
use Rattle.spec_project.specs.Shape.{shape}
use Rattle.spec_project.specs.Reading.{described, value_of}
use Rattle.spec_project.specs.Names.{names_fault}
use Rattle.spec_project.specs.Tags.{declarations, types_fault, tags_fault, aliases_fault}
use Rattle.spec_project.specs.Schedules.{schedule, tasks_fault}
use Rattle.spec_project.specs.Places.{connections_fault, places_fault, connection_of, watch_of, image_of}
use Rattle.spec_project.specs.Routines.{names_of_tasks, program_texts, routines_fault}

-- the value, unless there is a refusal
abbrev pub unless_refused : {A : Type 0} → Option ProjectFault → A → Result A ProjectFault
unless_refused None x = Ok x
unless_refused (Some fault) x = Err fault

-- what a value describes, or the first refusal of its shape; P1: there is no value
abbrev pub described_by : Option Data → Result Described ProjectFault
described_by None = Err (here P1)
described_by (Some d) = unless_refused (shape d) (described d)

unfoldable pub described_in : List ℕ → Result Described ProjectFault
described_in bytes = described_by (value_of bytes)

-- the first refusal of what a file describes
unfoldable pub refusal : Described → Option ProjectFault
refusal p =
    or_else (names_fault p)
    (or_else (types_fault p)
    (or_else (tags_fault p)
    (or_else (aliases_fault p)
    (or_else (tasks_fault p)
    (or_else (connections_fault p)
    (or_else (places_fault p)
    (routines_fault p)))))))

unfoldable pub project_made : Described → Project
project_made p = record {
  tags = declarations p;
  programs = program_texts p;
  tasks = map (λ t. t.def) p.tasks;
  names = names_of_tasks p;
  schedule = schedule p;
  conns = map (connection_of p) p.connections;
  image = image_of p;
  watches = filter_map (watch_of p) p.watch;
}

abbrev pub project_from : Result Described ProjectFault → Result Project ProjectFault
project_from (Err fault) = Err fault
project_from (Ok p) = unless_refused (refusal p) (project_made p)

-- the project that the bytes of a file give, or the first refusal
unfoldable pub project_of : List ℕ → Result Project ProjectFault
project_of bytes = project_from (described_in bytes)
