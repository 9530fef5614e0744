-- The ladder machine: what each event does to the state, and what is answered.
use Rattle.std.specs.Prelude.{◌≡◌, ℕ, List, [], ◌∷◌, map}
use Rattle.spec_machine.specs.declared.event.Action.{Action}
use Rattle.spec_machine.specs.declared.event.Event.{Event}
use Rattle.spec_machine.specs.declared.event.Event.TheVariants.{Cpu, Tick, Act}
use Rattle.spec_machine.specs.declared.answer.Moment.{Moment}
use Rattle.spec_machine.specs.declared.answer.TickReport.{TickReport}
use Rattle.spec_machine.specs.declared.answer.Outcome.{Outcome}
use Rattle.spec_machine.specs.ProcessorStep.{processor_step}
use Rattle.spec_machine.specs.Ticks.{tick}
use Rattle.spec_machine.specs.Actions.{act}
use Rattle.spec_machine.specs.State.{State, start, Answered}
use Rattle.spec_machine.specs.Project.{Project}

-- An event with its answer: a processor step with what it did, a tick with its report, an action of a lane with its
-- outcome.
pub data TraceEntry : Type 0 where
  OfStep : Moment → TraceEntry
  OfTick : TickReport → TraceEntry
  OfAction : ℕ → Action → Outcome → TraceEntry

abbrev pub event_of : TraceEntry → Event
event_of (OfStep m) = Cpu
event_of (OfTick r) = Tick
event_of (OfAction lane action o) = Act lane action

abbrev pub after_step : Answered Moment → Answered TraceEntry
after_step x = record { state = x.state; answer = OfStep x.answer }

abbrev pub after_tick : Answered TickReport → Answered TraceEntry
after_tick x = record { state = x.state; answer = OfTick x.answer }

abbrev pub after_action : ℕ → Action → Answered Outcome → Answered TraceEntry
after_action lane action x = record { state = x.state; answer = OfAction lane action x.answer }

-- An event is a processor step, a tick, or an action of a lane.
abbrev pub step : State → Event → Answered TraceEntry
step s Cpu = after_step (processor_step s)
step s Tick = after_tick (tick s)
step s (Act lane action) = after_action lane action (act s lane action)

abbrev pub run_from : State → List Event → State
run_from s [] = s
run_from s (e ∷ es) = run_from (step s e).state es

abbrev pub trace_from : State → List Event → List TraceEntry
trace_from s [] = []
trace_from s (e ∷ es) = let x = step s e in x.answer ∷ trace_from x.state es

-- the state after a journal
abbrev pub run : Project → List Event → State
run project journal = run_from (start project) journal

-- a journal's events, each with its answer
abbrev pub trace : Project → List Event → List TraceEntry
trace project journal = trace_from (start project) journal

-- the events of a journal's trace are the journal
abbrev pub TracesKeepEvents : Type 0
TracesKeepEvents = (project : Project) (journal : List Event) → map event_of (trace project journal) ≡ journal
