-- What a trace shows of an event, by the names of the programs.
use Rattle.std.specs.Prelude.{◌≡◌, ℕ, List, Option, Some, None}
use Rattle.std.specs.List.{position_from}
use Rattle.lgx_num.specs.Name.{same}
use Rattle.spec_machine.specs.declared.event.Event.{Event}
use Rattle.spec_machine.specs.Machine.{TraceEntry, OfStep, OfTick, OfAction, event_of}
use Rattle.spec_schedule.specs.declared.trace.TraceEvent.{TraceEvent}
use Rattle.spec_schedule.specs.declared.trace.TraceEvent.TheVariants.{Tick, Act}
use Rattle.spec_schedule.specs.TraceView.{step_seen, verb_of, named, answer_of}
use Rattle.lgx_core.specs.ControllerView.{ControllerView}
use Rattle.lgx_core.specs.Represents.{GoesOn}

-- the number of the program of this name, unless there is none
abbrev pub numbered : List (List ℕ) → Option (List ℕ) → Option ℕ
numbered names None = None
numbered names (Some name) = position_from (λ n. same n name) 0 names

abbrev pub seen_by : List (List ℕ) → TraceEntry → TraceEvent
seen_by names (OfStep m) = step_seen m m.what
seen_by names (OfTick r) = Tick r.released r.overlapped r.watchdog
seen_by names (OfAction lane a o) = Act lane (verb_of a) (numbered names (named a)) (answer_of o.reply) o.released

-- the run goes on with the event, and this is what is seen of it
pub record Makes (old new : ControllerView) (names : List (List ℕ)) (event : Event) (x : TraceEvent) : Type 0 where
  pub entry : TraceEntry
  pub goes_on : GoesOn old new entry
  pub is_event : event_of entry ≡ event
  pub is_seen : x ≡ seen_by names entry
