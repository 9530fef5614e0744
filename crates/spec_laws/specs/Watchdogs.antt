-- The law of watchdogs: a tick reports the first task that has been up for as many ticks as its watchdog has.
use Rattle.std.specs.Prelude.{ℕ, ◌+◌, List, length, slice_index_or, Bool, true, not, ◌&&◌, nat_le, Option, Some, None}
use Rattle.std.specs.List.{list_all, range_with_len}
use Rattle.spec_tables.specs.declared.task.TaskDef.{TaskDef}
use Rattle.spec_tables.specs.Tasks.{no_task}
use Rattle.spec_schedule.specs.declared.trace.TraceEvent.{TraceEvent}
use Rattle.spec_schedule.specs.declared.trace.TraceEvent.TheVariants.{Tick}
use Rattle.spec_schedule.specs.Counting.{CountedEvent}
use Rattle.spec_schedule.specs.Legal.{at}
use Rattle.spec_laws.specs.CountedBack.{ticks_up}

-- the task is counted up, and with this tick as long as its watchdog allows
abbrev pub runs_out : List TaskDef → List CountedEvent → CountedEvent → ℕ → Bool
runs_out tasks past x t =
    (at x t).up && nat_le (slice_index_or tasks t no_task).watchdog (ticks_up t x.tasks past + 1)

-- no task below n
abbrev pub none_below : List TaskDef → List CountedEvent → CountedEvent → ℕ → Bool
none_below tasks past x n = list_all (λ t. not (runs_out tasks past x t)) (range_with_len 0 n)

-- it is reported if it ran out and none before it did; none is reported if none ran out
abbrev pub is_first_out : List TaskDef → List CountedEvent → CountedEvent → Option ℕ → Bool
is_first_out tasks past x None = none_below tasks past x (length tasks)
is_first_out tasks past x (Some t) = runs_out tasks past x t && none_below tasks past x t

abbrev pub keeps_watchdogs : List TaskDef → List CountedEvent → CountedEvent → Bool
keeps_watchdogs tasks past x = check x.event
  where
    check : TraceEvent → Bool
    check (Tick _ _ told) = is_first_out tasks past x told
    check _ = true
