-- The law of triggers: an EVENT overlaps exactly if its task is up and isn't inhibited, and else it has no fault. Then it
-- releases the task, unless that is inhibited.
use Rattle.std.specs.Prelude.{ℕ, List, slice_index_or, Bool, true, false, not, ◌&&◌}
use Rattle.spec_tables.specs.declared.task.TaskDef.{TaskDef}
use Rattle.spec_tables.specs.Tasks.{no_task}
use Rattle.spec_schedule.specs.declared.trace.StepFault.{StepFault}
use Rattle.spec_schedule.specs.declared.trace.StepFault.TheVariants as fault
use Rattle.spec_schedule.specs.declared.trace.TraceMark.TheVariants.{Trigger}
use Rattle.spec_schedule.specs.declared.trace.TraceEvent.{TraceEvent}
use Rattle.spec_schedule.specs.declared.trace.TraceEvent.TheVariants.{Step}
use Rattle.spec_schedule.specs.Counting.{CountedEvent}
use Rattle.spec_schedule.specs.Legal.{at}

abbrev pub overlaps_at : List TaskDef → CountedEvent → ℕ → Bool
overlaps_at tasks x t = (at x t).up && not (slice_index_or tasks t no_task).inhibited

-- the fault that reports it is minor
abbrev pub tells_overlap : StepFault → Bool → Bool
tells_overlap fault.Plain overlaps = not overlaps
tells_overlap fault.Minor overlaps = overlaps
tells_overlap fault.Major overlaps = false

abbrev pub keeps_triggers : List TaskDef → CountedEvent → Bool
keeps_triggers tasks x = check x.event
  where
    check : TraceEvent → Bool
    check (Step _ _ (Trigger t) f) = tells_overlap f (overlaps_at tasks x t)
    check _ = true
