-- Releases, overlaps and faults.
use Rattle.std.specs.Prelude.{ℕ, ◌^◌, map, Option, Some, None, slice_set}
use Rattle.spec_tables.specs.declared.fault.TheConstants.{PROGRAM_FAULT, TASK_FAULT, PERIODIC_OVERLAP, EVENT_OVERLAP}
use Rattle.spec_tables.specs.declared.fault.Fault.{Fault}
use Rattle.spec_tables.specs.declared.fault.Severity.{Severity}
use Rattle.spec_tables.specs.declared.fault.Severity.TheVariants.{Minor}
use Rattle.spec_machine.specs.declared.reply.Mode.TheVariants.{Faulted}
use Rattle.spec_tables.specs.declared.task.TaskKind.{TaskKind}
use Rattle.spec_tables.specs.declared.task.TaskKind.TheVariants.{Periodic}
use Rattle.spec_tables.specs.declared.task.Release.{Release}
use Rattle.spec_tables.specs.declared.task.Release.TheVariants.{Released, Overlap, Inhibited}
use Rattle.spec_tables.specs.Tasks.{task, release_answer, put_up, if_released, stop}
use Rattle.spec_machine.specs.State.{State, progress_of, dropped, with_fault}

-- ---- faults

-- a fault of an instruction
abbrev pub program_fault : State → Severity → ℕ → ℕ → ℕ → Fault
program_fault s severity code t n = record { severity = severity; kind = PROGRAM_FAULT; code = code; task = t; program = Some n; tick = s.tick }

-- a fault of a task: its watchdog, or an overlap
abbrev pub task_fault : State → Severity → ℕ → ℕ → Fault
task_fault s severity code t = record { severity = severity; kind = TASK_FAULT; code = code; task = t; program = None; tick = s.tick }

abbrev pub overlap_code : TaskKind → ℕ
overlap_code (Periodic n) = PERIODIC_OVERLAP
overlap_code _ = EVENT_OVERLAP

-- A major fault puts every task down, drops its position, and leads to Faulted.
abbrev pub major_fault : Fault → State → State
major_fault f s = with_fault f (record s { mode = Faulted; table = stop s.table; progress = map dropped s.progress })

-- ---- releases

-- the state after a release, its answer, and the fault of an overlap
pub record AfterRelease : Type 0 where
  pub state : State
  pub answer : Release
  pub fault : Option Fault

abbrev pub overlap : State → ℕ → Fault
overlap s t = task_fault s Minor (overlap_code (task s.table t).kind) t

abbrev pub with_task_up : ℕ → State → State
with_task_up t s =
    record s { table = put_up t s.tick s.table; progress = slice_set s.progress t (dropped (progress_of s t)) }

-- A task that is down comes up, with no program begun. A task that is up overlaps: nothing starts, and a minor fault is
-- recorded. At an inhibited task nothing changes.
abbrev pub after_answer : Release → ℕ → State → AfterRelease
after_answer Released t s = record { state = with_task_up t s; answer = Released; fault = None }
after_answer Overlap t s = record { state = with_fault (overlap s t) s; answer = Overlap; fault = Some (overlap s t) }
after_answer Inhibited t s = record { state = s; answer = Inhibited; fault = None }

-- Every release of the machine goes by the answer of the table: a due task's, a trigger's, and EVENT's. The continuous
-- task's, at the change to Run and after its last program, goes by it in the table alone.
abbrev pub release_task : ℕ → State → AfterRelease
release_task t s = after_answer (release_answer s.table t) t s

-- the mask of one task, or of none: bit t stands for task t
abbrev pub mask_of : Option ℕ → ℕ
mask_of None = 0
mask_of (Some t) = 2 ^ t

-- the mask of the task that a release put up
abbrev pub released_mask : ℕ → Release → ℕ
released_mask t answer = mask_of (if_released answer t)
