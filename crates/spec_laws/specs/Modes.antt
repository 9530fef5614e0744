-- The law of modes: which events lead to another mode, and that every task is down outside Run.
use Rattle.std.specs.Prelude.{◌≡◌, List, Bool, true, false, not, ◌||◌, if◌then◌else◌, Option, Some, None, is_some, IsTrue}
use Rattle.std.specs.List.{AllByRecursion, list_any}
use Rattle.spec_tables.specs.declared.fault.Fault.{Fault}
use Rattle.spec_tables.specs.declared.fault.Severity.{Severity}
use Rattle.spec_tables.specs.declared.fault.Severity.TheVariants.{Minor, Major}
use Rattle.spec_machine.specs.declared.event.Action.TheVariants.{ModeRun, ModeProgram, Clear}
use Rattle.spec_machine.specs.declared.event.Event.{Event}
use Rattle.spec_machine.specs.declared.reply.Mode.{Mode}
use Rattle.spec_machine.specs.declared.reply.Mode.TheVariants.{Program, Run, Faulted}
use Rattle.spec_machine.specs.Machine.{TraceEntry, OfStep, OfTick, OfAction}
use Rattle.spec_machine.specs.Project.{Project}
use Rattle.spec_schedule.specs.Refusals.{is_mode}
use Rattle.spec_schedule.specs.Stages.{Stage, stages, is_refusal}

abbrev pub is_major : Option Fault → Bool
is_major None = false
is_major (Some f) = of_severity f.severity
  where
    of_severity : Severity → Bool
    of_severity Minor = false
    of_severity Major = true

-- A watchdog that runs out and a major fault of an instruction lead to Faulted, and each command of modes that isn't
-- refused to its mode: `clear` leads to Program.
abbrev pub mode_after : Mode → TraceEntry → Mode
mode_after m (OfTick r) = if is_some r.watchdog then Faulted else m
mode_after m (OfStep k) = if is_major k.fault then Faulted else m
mode_after m (OfAction lane ModeRun o) = if is_refusal o.reply then m else Run
mode_after m (OfAction lane ModeProgram o) = if is_refusal o.reply then m else Program
mode_after m (OfAction lane Clear o) = if is_refusal o.reply then m else Program
mode_after m _ = m

pub record KeepsMode (x : Stage) : Type 0 where
  pub mode : x.after.mode ≡ mode_after x.before.mode x.entry
  -- outside Run no task is up
  pub down : IsTrue (is_mode x.after.mode Run || not (list_any (λ u. is_some u) x.after.table.states))

abbrev pub ModesAreKept : Project → Type 0
ModesAreKept p = (journal : List Event) → AllByRecursion KeepsMode (stages p journal)
