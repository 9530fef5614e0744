-- The law of starts: whom an action releases. The change to Run releases the continuous task; an input word in Run may release one
-- event task. No other action releases anybody, nor does one that is held or refused.
use Rattle.std.specs.Prelude.{ℕ, ◌^◌, List, length, slice_index_or, Bool, true, not, ◌&&◌, ◌||◌, nat_eq}
use Rattle.std.specs.List.{list_any, range_with_len}
use Rattle.spec_tables.specs.declared.task.TaskKind.{TaskKind}
use Rattle.spec_tables.specs.declared.task.TaskDef.{TaskDef}
use Rattle.spec_tables.specs.Tasks.{no_task, is_continuous}
use Rattle.spec_machine.specs.declared.reply.Mode.TheVariants as mode
use Rattle.spec_machine.specs.ValidProject.{is_event}
use Rattle.spec_schedule.specs.declared.trace.Verb.TheVariants.{Run, Other}
use Rattle.spec_schedule.specs.declared.trace.TraceAnswer.TheVariants.{Done}
use Rattle.spec_schedule.specs.declared.trace.TraceEvent.{TraceEvent}
use Rattle.spec_schedule.specs.declared.trace.TraceEvent.TheVariants.{Act}
use Rattle.spec_schedule.specs.Counting.{CountedEvent}
use Rattle.spec_schedule.specs.Legal.{at}
use Rattle.spec_schedule.specs.Refusals.{is_mode}
use Rattle.spec_laws.specs.TickReleases.{mask_below}
use Rattle.lgx_laws.specs.Modes.{mode_after, holds}

-- a task of this kind comes up if it is down and isn't inhibited
abbrev pub may_come_up : (TaskKind → Bool) → List TaskDef → CountedEvent → ℕ → Bool
may_come_up kind tasks x t =
    (kind (slice_index_or tasks t no_task).kind && not (slice_index_or tasks t no_task).inhibited) && not (at x t).up

-- the mask is that of one event task
abbrev pub is_event_mask : List TaskDef → CountedEvent → ℕ → Bool
is_event_mask tasks x mask = list_any (λ t. nat_eq mask (2 ^ t) && may_come_up is_event tasks x t) (range_with_len 0 (length tasks))

-- a word that comes in may release its trigger: in Run, unless a CPS is in progress
abbrev pub may_trigger : List CountedEvent → CountedEvent → Bool
may_trigger past x = is_mode (mode_after past) mode.Run && not (holds x.tasks)

abbrev pub keeps_starts : List TaskDef → List CountedEvent → CountedEvent → Bool
keeps_starts tasks past x = check x.event
  where
    check : TraceEvent → Bool
    check (Act _ Run _ Done mask) = nat_eq mask (mask_below (may_come_up is_continuous tasks x) (length tasks))
    check (Act _ Other _ Done mask) = nat_eq mask 0 || (may_trigger past x && is_event_mask tasks x mask)
    check (Act _ verb _ answer mask) = nat_eq mask 0
    check _ = true
