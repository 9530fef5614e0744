-- Which instruction the next processor step executes.
use Rattle.std.specs.Prelude.{ℕ, Option, Some, None, option_map}
use Rattle.spec_tables.specs.Tasks.{chosen}
use Rattle.spec_machine.specs.State.{State, Scan, progress_of}
use Rattle.lgx_engine.specs.Executing.{executing}
use Rattle.lgx_steps.specs.declared.executing.Executed.{Executed}

-- by a scan in progress, if its next step executes one
abbrev pub executed_by : Option Scan → Option Executed
executed_by None = None
executed_by (Some scan) = option_map (λ x. record { program = scan.program; execution = x }) (executing scan.position)

abbrev pub executed_of : State → Option ℕ → Option Executed
executed_of s None = None
executed_of s (Some t) = executed_by (progress_of s t).scan

-- the chosen task executes
abbrev pub executed : State → Option Executed
executed s = executed_of s (chosen s.table)
