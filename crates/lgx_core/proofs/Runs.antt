-- A run goes on with an event.
use Rattle.std.proofs.Common.{◌≡◌, ◌+◌, List, [], ◌∷◌, ◌++◌, length, refl, sym, ap, ◌∙◌, subst}
use Rattle.std.proofs.lemmas.List.{length-append}
use Rattle.spec_machine.specs.declared.event.Event.{Event}
use Rattle.spec_machine.specs.Machine.{TraceEntry, event_of, step, run_from, run, trace_from, trace}
use Rattle.spec_machine.specs.State.{State, start}
use Rattle.spec_reach.proofs.Reached.{run_more}
use Rattle.lgx_core.specs.ControllerView.{ControllerView}
use Rattle.lgx_core.specs.Represents.{RepresentsController, IsController, GoesOn}

-- the last event has the last answer of a trace
pub trace-more : (s : State) (events : List Event) (e : Event) → trace_from s (events ++ e ∷ []) ≡ trace_from s events ++ (step (run_from s events) e).answer ∷ []
trace-more s [] e = refl
trace-more s (x ∷ events) e = ap (λ (entries : List TraceEntry). (step s x).answer ∷ entries) (trace-more (step s x).state events e)

-- the machine's answer, and its next state
pub record Steps (now : ControllerView) (s : State) (entry : TraceEntry) : Type 0 where
  pub answers : entry ≡ (step s (event_of entry)).answer
  pub represents : RepresentsController now (step s (event_of entry)).state

module _ (old now : ControllerView) (entry : TraceEntry) where
  -- whatever state was represented, so the runs go on
  pub goes-on : now.spent ≡ old.spent + 1 → ((s : State) → RepresentsController old s → Steps now s entry) → GoesOn old now entry
  goes-on counted steps p events h =
      let e : Event = event_of entry in
      let g : Steps now (run p events) entry = steps (run p events) h.represents in
      let longer : length (events ++ e ∷ []) ≡ length events + 1 = length-append events (e ∷ []) in
      let spent : now.spent ≡ length (events ++ e ∷ []) = counted ∙ (ap (λ k. k + 1) h.counted ∙ sym longer) in
      record {
        stands = record { valid = h.valid; counted = spent; represents = subst (λ (s : State). RepresentsController now s) (sym (run_more p events e)) g.represents };
        answers = trace-more (start p) events e ∙ ap (λ (x : TraceEntry). trace p events ++ x ∷ []) (sym g.answers);
      }

  -- it still stands for a run
  pub still : GoesOn old now entry → IsController old → IsController now
  still goes i = let x = goes i.project i.events i.stands in record { project = i.project; events = i.events ++ event_of entry ∷ []; stands = x.stands }
