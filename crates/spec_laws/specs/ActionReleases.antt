-- The law of releases by actions: in Run the last word of an input releases the task that its connection triggers, and the
-- change to Run releases the continuous task. No other action releases anybody. The answers of a trace don't say which word came
-- in, so this is a law of the states.
use Rattle.std.specs.Prelude.{◌≡◌, ℕ, ◌+◌, List, length, find, Bool, false, not, ◌&&◌, ◌||◌, nat_eq, Option, None, option_map, ⊤}
use Rattle.std.specs.List.{AllByRecursion, range_with_len}
use Rattle.spec_tables.specs.declared.fault.TheConstants.{TASK_FAULT, EVENT_OVERLAP}
use Rattle.spec_tables.specs.declared.fault.Fault.{Fault}
use Rattle.spec_tables.specs.declared.fault.Severity.TheVariants.{Minor}
use Rattle.spec_tables.specs.Tasks.{task, is_up, is_continuous}
use Rattle.spec_machine.specs.declared.answer.Outcome.{Outcome}
use Rattle.spec_machine.specs.declared.event.Action.{Action}
use Rattle.spec_machine.specs.declared.event.Action.TheVariants.{WordIn, ModeRun, ModeProgram}
use Rattle.spec_machine.specs.declared.event.Event.{Event}
use Rattle.spec_machine.specs.declared.reply.Mode.TheVariants.{Run}
use Rattle.spec_machine.specs.declared.reply.Reply.{Reply}
use Rattle.spec_machine.specs.declared.reply.Reply.TheVariants.{Done}
use Rattle.spec_machine.specs.Machine.{TraceEntry, OfAction}
use Rattle.spec_machine.specs.Project.{Project}
use Rattle.spec_machine.specs.State.{State}
use Rattle.spec_schedule.specs.Counting.{is_task}
use Rattle.spec_schedule.specs.Refusals.{conn_of, is_mode}
use Rattle.spec_schedule.specs.Stages.{Stage, stages}
use Rattle.spec_laws.specs.TickReleases.{mask_below}

-- by its reply the action calls for a release of the task
abbrev pub calls_for : State → Action → Reply → ℕ → Bool
calls_for s (WordIn name word value) Done t =
    is_mode s.mode Run && (nat_eq (word + 1) (conn_of s name).words && is_task t (conn_of s name).trigger)
calls_for s ModeRun Done t = is_continuous (task s.table t).kind
calls_for s _ _ t = false

-- which then comes up if it was down, overlaps if it was up, and does neither if it is inhibited
abbrev pub comes_up_by : State → Action → Reply → ℕ → Bool
comes_up_by s a r t = (calls_for s a r t && not (task s.table t).inhibited) && not (is_up s.table t)

abbrev pub overlaps_by : State → Action → Reply → ℕ → Bool
overlaps_by s a r t = (calls_for s a r t && not (task s.table t).inhibited) && is_up s.table t

-- the overlap of an event task is a minor fault
abbrev pub overlap_of : State → ℕ → Fault
overlap_of s t = record { severity = Minor; kind = TASK_FAULT; code = EVENT_OVERLAP; task = t; program = None; tick = s.tick }

-- the mask of the tasks that pass, and the first of them
abbrev pub mask_where : State → (ℕ → Bool) → ℕ
mask_where s test = mask_below test (length s.table.defs)

abbrev pub first_task : State → (ℕ → Bool) → Option ℕ
first_task s test = find test (range_with_len 0 (length s.table.defs))

-- who was up stays up, but at a change to Program
abbrev pub stays_up : State → Action → Reply → ℕ → Bool
stays_up s ModeProgram Done t = false
stays_up s _ _ t = is_up s.table t

pub record IsReleasedRightly (before : State) (a : Action) (o : Outcome) (after : State) : Type 0 where
  -- its mask says who comes up
  pub released : o.released ≡ mask_where before (comes_up_by before a o.reply)
  -- and its fault who overlaps
  pub fault : o.fault ≡ option_map (overlap_of before) (first_task before (overlaps_by before a o.reply))
  -- up are then those who came up and those who stay up
  pub up : mask_where before (is_up after.table) ≡ mask_where before (λ t. comes_up_by before a o.reply t || stays_up before a o.reply t)

abbrev pub KeepsActionReleases : Stage → Type 0
KeepsActionReleases x = go x.entry
  where
    go : TraceEntry → Type 0
    go (OfAction lane action o) = IsReleasedRightly x.before action o x.after
    go _ = ⊤

abbrev pub ActionsRelease : Project → Type 0
ActionsRelease p = (journal : List Event) → AllByRecursion KeepsActionReleases (stages p journal)
