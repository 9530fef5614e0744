-- The tasks of a file, as they are read.
use Rattle.std.specs.Prelude.{◌≡◌, map}
use Rattle.spec_project.specs.declared.described.Described.{Described}
use Rattle.spec_project.specs.Routines.{names_of_tasks}
use Rattle.spec_project.specs.Schedules as schedules
use Rattle.lgx_project.specs.declared.tasks.TaskParts.{TaskParts}

pub record AreTasksOf (p : Described) (tasks : TaskParts) : Type 0 where
  pub defs : tasks.defs ≡ map (λ t. t.def) p.tasks
  pub names : tasks.names ≡ names_of_tasks p
  pub schedule : tasks.schedule ≡ schedules.schedule p
