-- The law of releases at ticks: a tick releases the periodic tasks that are due.
use Rattle.std.specs.Prelude.{ℕ, zero, suc, ◌+◌, ◌%◌, ◌^◌, List, length, slice_index_or, Bool, true, false, not, ◌&&◌, nat_eq, if◌then◌else◌, Option, Some, None}
use Rattle.spec_tables.specs.declared.task.TaskDef.{TaskDef}
use Rattle.spec_tables.specs.declared.task.TaskKind.{TaskKind}
use Rattle.spec_tables.specs.declared.task.TaskKind.TheVariants.{Periodic}
use Rattle.spec_tables.specs.Tasks.{no_task}
use Rattle.spec_schedule.specs.declared.trace.TraceEvent.{TraceEvent}
use Rattle.spec_schedule.specs.declared.trace.TraceEvent.TheVariants.{Tick}
use Rattle.spec_schedule.specs.Counting.{CountedEvent}
use Rattle.spec_schedule.specs.Legal.{at}
use Rattle.spec_laws.specs.CountedBack.{ticks_in_run}

-- the mask of the tasks below n that pass
abbrev pub mask_below : (ℕ → Bool) → ℕ → ℕ
mask_below test zero = 0
mask_below test (suc n) = mask_below test n + (if test n then 2 ^ n else 0)

-- the ticks are a multiple of the task's period
abbrev pub are_periods : ℕ → TaskKind → Bool
are_periods ticks (Periodic period) = nat_eq (ticks % period) 0
are_periods ticks _ = false

-- a task that isn't inhibited is due in Run when the ticks since the change to Run, this one among them, are periods of it
abbrev pub is_due : TaskDef → Option ℕ → Bool
is_due d None = false
is_due d (Some ticks) = are_periods (ticks + 1) d.kind && not d.inhibited

abbrev pub is_due_at : List TaskDef → List CountedEvent → ℕ → Bool
is_due_at tasks past t = is_due (slice_index_or tasks t no_task) (ticks_in_run past)

-- who is due and down comes up, and who is due and up overlaps
abbrev pub comes_up : List TaskDef → List CountedEvent → CountedEvent → ℕ → Bool
comes_up tasks past x t = is_due_at tasks past t && not (at x t).up

abbrev pub overlaps : List TaskDef → List CountedEvent → CountedEvent → ℕ → Bool
overlaps tasks past x t = is_due_at tasks past t && (at x t).up

-- a tick that reports a watchdog's task releases nobody
abbrev pub keeps_releases : List TaskDef → List CountedEvent → CountedEvent → Bool
keeps_releases tasks past x = check x.event
  where
    check : TraceEvent → Bool
    check (Tick released overlapped None) =
        nat_eq released (mask_below (comes_up tasks past x) (length tasks)) && nat_eq overlapped (mask_below (overlaps tasks past x) (length tasks))
    check (Tick released overlapped (Some t)) = nat_eq released 0 && nat_eq overlapped 0
    check _ = true
