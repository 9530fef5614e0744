-- Periods of tasks.
use Rattle.std.specs.Prelude.{◌<◌}
use Rattle.spec_tables.specs.declared.task.TaskKind.{TaskKind}
use Rattle.spec_tables.specs.declared.task.TaskKind.TheVariants.{Continuous, Periodic, Event}

-- a period has at least one tick
abbrev pub HasTicks : TaskKind → Type 0
HasTicks (Periodic n) = 0 < n
HasTicks _ = Unit {0}
