-- Laws of the tick: its report gives the faults that it recorded, and its masks are of tasks.
use Rattle.std.specs.Prelude.{◌≡◌, ℕ, zero, suc, ◌^◌, ◌<◌, List, [], ◌∷◌, ◌++◌, map, length, nat_eq, if◌then◌else◌, Option, Some, None}
use Rattle.std.specs.Int.{bit_at}
use Rattle.spec_tables.specs.declared.fault.TheConstants.{WATCHDOG, PERIODIC_OVERLAP}
use Rattle.spec_tables.specs.declared.fault.Fault.{Fault}
use Rattle.spec_tables.specs.declared.fault.Severity.TheVariants.{Minor, Major}
use Rattle.spec_machine.specs.declared.answer.TickReport.{TickReport}
use Rattle.spec_machine.specs.State.{State}
use Rattle.spec_machine.specs.Releases.{task_fault}
use Rattle.spec_machine.specs.Ticks.{tick}

-- the tasks below n whose bit is set in a mask, in task order
abbrev pub tasks_in : ℕ → ℕ → List ℕ
tasks_in mask zero = []
tasks_in mask (suc n) = tasks_in mask n ++ (if nat_eq (bit_at mask n) 1 then n ∷ [] else [])

-- the fault of the task whose watchdog ran out
abbrev pub watchdog_fault : State → Option ℕ → List Fault
watchdog_fault s None = []
watchdog_fault s (Some t) = task_fault s Major WATCHDOG t ∷ []

-- and the overlap of each task whose bit says so, in task order: the tick releases periodic tasks alone
abbrev pub report_faults : State → TickReport → List Fault
report_faults s r =
    watchdog_fault s r.watchdog ++ map (task_fault s Minor PERIODIC_OVERLAP) (tasks_in r.overlapped (length s.table.defs))

-- The faults that a tick records are those of its report. They have the tick that it leads to.
abbrev pub TicksTellFaults : Type 0
TicksTellFaults = (s : State) → (tick s).state.faults ≡ s.faults ++ report_faults (tick s).state (tick s).answer

-- a mask has bits of the table's tasks alone, so that of 32 tasks is below 2 ^ 32
abbrev pub IsMaskOf : State → ℕ → Type 0
IsMaskOf s mask = mask < 2 ^ length s.table.defs

abbrev pub MasksAreOfTasks : Type 0
MasksAreOfTasks = (s : State) → IsMaskOf s (tick s).answer.released × IsMaskOf s (tick s).answer.overlapped

-- A tick keeps the table's tasks.
abbrev pub TicksKeepTasks : Type 0
TicksKeepTasks = (s : State) → (tick s).state.table.defs ≡ s.table.defs
