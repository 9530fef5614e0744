-- What a run executed: instruction by instruction, each with the version that its program had begun with.
use Rattle.std.specs.Prelude.{ℕ, List, [], ◌∷◌, ◌++◌, flat_map, nat_eq, if◌then◌else◌, Option, Some, None, option_map, option_to_list}
use Rattle.std.specs.Option.{option_or}
use Rattle.spec_machine.specs.declared.answer.What.{What}
use Rattle.spec_machine.specs.declared.answer.What.TheVariants as what
use Rattle.spec_machine.specs.declared.event.Event.{Event}
use Rattle.spec_machine.specs.declared.event.Event.TheVariants.{Cpu}
use Rattle.spec_machine.specs.Machine.{TraceEntry, OfStep, run, trace}
use Rattle.spec_machine.specs.Project.{Project}
use Rattle.lgx_engine.specs.declared.place.Execution.{Execution}
use Rattle.lgx_steps.specs.declared.executing.Executed.{Executed}
use Rattle.lgx_steps.specs.Executing.{executed}
use Rattle.lgx_cover.specs.declared.version.Version.{Version}

-- ---- the versions that programs began with

-- the one that a processor step reports, if a program begins with it
abbrev pub version_in : What → List Version
version_in (what.Began t q n) = record { program = q; number = n } ∷ []
version_in _ = []

abbrev pub begun_by : TraceEntry → List Version
begun_by (OfStep moment) = version_in moment.what
begun_by _ = []

-- those of all begins of a run, in order
abbrev pub begins : Project → List Event → List Version
begins project events = flat_map begun_by (trace project events)

-- the number of the one that a program began with last; the scan of this program that is in progress began with it, since a
-- program is in one task's list, once
abbrev pub latest : ℕ → List Version → Option ℕ
latest q [] = None
latest q (v ∷ vs) = option_or (latest q vs) (if nat_eq q v.program then Some v.number else None)

-- ---- executions

-- an instruction that was executed, with the condition before it, and the version that its program had begun with
pub record Occurrence : Type 0 where
  pub version : Version
  pub execution : Execution

abbrev pub occurrence : Executed → ℕ → Occurrence
occurrence x n = record { version = record { program = x.program; number = n }; execution = x.execution }

-- what is executed after these begins; a program that executes has begun
abbrev pub occurrences : List Version → Option Executed → List Occurrence
occurrences begun None = []
occurrences begun (Some x) = option_to_list (option_map (occurrence x) (latest x.program begun))

-- what an event executes after others: a processor step alone executes an instruction
abbrev pub executed_by : Project → List Event → Event → List Occurrence
executed_by project before Cpu = occurrences (begins project before) (executed (run project before))
executed_by project before _ = []

-- what events execute one after another, after others
abbrev pub executed_after : Project → List Event → List Event → List Occurrence
executed_after project before [] = []
executed_after project before (e ∷ es) = executed_by project before e ++ executed_after project (before ++ e ∷ []) es

-- all that a run executed, in order
abbrev pub executions : Project → List Event → List Occurrence
executions project events = executed_after project [] events
