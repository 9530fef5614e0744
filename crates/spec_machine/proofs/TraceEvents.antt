-- The entries of a trace are of its events.
use Rattle.std.proofs.Common.{◌≡◌, List, [], ◌∷◌, map, refl, ap, ◌∙◌}
use Rattle.spec_machine.specs.declared.event.Event.{Event}
use Rattle.spec_machine.specs.declared.event.Event.TheVariants.{Cpu, Tick, Act}
use Rattle.spec_machine.specs.State.{State, start}
use Rattle.spec_machine.specs.Machine.{event_of, step, trace_from, TracesKeepEvents}

event_answered : (s : State) (e : Event) → event_of (step s e).answer ≡ e
event_answered s Cpu = refl
event_answered s Tick = refl
event_answered s (Act lane a) = refl

events_from : (s : State) (es : List Event) → map event_of (trace_from s es) ≡ es
events_from s [] = refl
events_from s (e ∷ es) = ap (λ e'. e' ∷ map event_of (trace_from (step s e).state es)) (event_answered s e) ∙ ap (λ es'. e ∷ es') (events_from (step s e).state es)

pub traces_keep_events : TracesKeepEvents
traces_keep_events project journal = events_from (start project) journal
