-- The places of a counted run, each with the state of the machine.
use Rattle.std.proofs.Common.{◌≡◌, Bool, true, List, [], ◌∷◌, map, refl}
use Rattle.std.specs.List.{list_all}
use Rattle.std.proofs.lemmas.Bool.{and_from}
use Rattle.spec_machine.specs.declared.event.Event.{Event}
use Rattle.spec_machine.specs.Project.{Project}
use Rattle.spec_machine.specs.State.{State, start}
use Rattle.spec_machine.specs.Machine.{step, trace_from}
use Rattle.spec_machine.specs.ValidProject.{IsValidProject}
use Rattle.spec_schedule.specs.Counting.{Counted, Numbers, uncounted, counted_all, edited_all, CountedEvent, counted_events_from}
use Rattle.spec_schedule.specs.Legal.{each_from}
use Rattle.spec_schedule.specs.TraceView.{audit_tasks, seen}
use Rattle.spec_reach.proofs.Reached.{IsReached, reached_start, reached_next, known_at}
use Rattle.spec_legal.proofs.Mirrors.{Mirrors, mirrors_next, mirrors_start}

-- what is counted of a run from a state on
abbrev pub places_from : Project → State → List Counted → List Numbers → List Event → List CountedEvent
places_from p s cs ns es = counted_events_from (audit_tasks p.tasks p.schedule) cs ns (map (seen p) (trace_from s es))

abbrev pub place : Project → State → List Counted → List Numbers → Event → CountedEvent
place p s cs ns e = record { tasks = cs; programs = ns; event = seen p (step s e).answer }

-- a place of a run
pub record IsPlace (p : Project) (s : State) (cs : List Counted) : Type 0 where
  pub reached : IsReached p s
  pub mirrors : Mirrors p s cs

module _ (p : Project) (valid : IsValidProject p) where
  abbrev pub counts_next : State → Event → List Counted → List Counted
  counts_next s e cs = counted_all (audit_tasks p.tasks p.schedule) (seen p (step s e).answer) cs

  pub place_next : (s : State) (e : Event) (cs : List Counted) → IsPlace p s cs → IsPlace p (step s e).state (counts_next s e cs)
  place_next s e cs h = record { reached = reached_next p s e h.reached; mirrors = mirrors_next p valid s e cs (known_at p s h.reached) h.mirrors }

  pub first_place : IsPlace p (start p) (map (λ d. uncounted) (audit_tasks p.tasks p.schedule))
  first_place = record { reached = reached_start p; mirrors = mirrors_start p valid }

  -- a test that holds at each place of a run
  pub all_places : (test : CountedEvent → Bool) → ((s : State) (e : Event) (cs : List Counted) (ns : List Numbers) → IsPlace p s cs → test (place p s cs ns e) ≡ true) → (s : State) (es : List Event) (cs : List Counted) (ns : List Numbers) → IsPlace p s cs → list_all test (places_from p s cs ns es) ≡ true
  all_places test each s [] cs ns h = refl
  all_places test each s (e ∷ es) cs ns h =
      and_from (test (place p s cs ns e)) _ (each s e cs ns h)
      (all_places test each (step s e).state es (counts_next s e cs) (edited_all (seen p (step s e).answer) ns) (place_next s e cs h))

  -- the places after an event
  abbrev pub places_after : State → Event → List Event → List Counted → List Numbers → List CountedEvent
  places_after s e es cs ns = places_from p (step s e).state (counts_next s e cs) (edited_all (seen p (step s e).answer) ns) es

  -- a test of each place with those after it
  pub each_along : (test : CountedEvent → List CountedEvent → Bool) → ((s : State) (e : Event) (es : List Event) (cs : List Counted) (ns : List Numbers) → IsPlace p s cs → test (place p s cs ns e) (places_after s e es cs ns) ≡ true) → (s : State) (es : List Event) (cs : List Counted) (ns : List Numbers) → IsPlace p s cs → each_from test (places_from p s cs ns es) ≡ true
  each_along test each s [] cs ns h = refl
  each_along test each s (e ∷ es) cs ns h =
      and_from (test (place p s cs ns e) (places_after s e es cs ns)) (each_from test (places_after s e es cs ns)) (each s e es cs ns h)
      (each_along test each (step s e).state es (counts_next s e cs) (edited_all (seen p (step s e).answer) ns) (place_next s e cs h))
