-- A test of each place of a run with those before it, where something holds at each place.
use Rattle.std.proofs.Common.{◌≡◌, Bool, true, List, [], ◌∷◌, length, map, refl}
use Rattle.std.specs.Prelude.{replicate}
use Rattle.std.proofs.lemmas.Bool.{and_from}
use Rattle.spec_machine.specs.declared.event.Event.{Event}
use Rattle.spec_machine.specs.Machine.{step}
use Rattle.spec_machine.specs.Project.{Project}
use Rattle.spec_machine.specs.State.{State, start}
use Rattle.spec_machine.specs.ValidProject.{IsValidProject}
use Rattle.spec_schedule.specs.declared.trace.AuditTask.{AuditTask}
use Rattle.spec_schedule.specs.Counting.{Counted, uncounted, Numbers, unedited, edited_all, CountedEvent}
use Rattle.spec_schedule.specs.TraceView.{audit_tasks, seen}
use Rattle.spec_legal.specs.LegalRuns.{counted_run}
use Rattle.spec_legal.proofs.Along.{places_from, place, IsPlace, counts_next, place_next, first_place}
use Rattle.spec_laws.specs.CountedBack.{each_with_past}

abbrev pub AtPlaces : Type 1
AtPlaces = State → List Counted → List Numbers → List CountedEvent → Type 0

-- it holds after an event if it does before it
abbrev pub GoesOn : (p : Project) → IsValidProject p → AtPlaces → Type 0
GoesOn p valid Holds =
    (s : State) (e : Event) (cs : List Counted) (ns : List Numbers) (past : List CountedEvent) → IsPlace p s cs → Holds s cs ns past → Holds (step s e).state (counts_next p valid s e cs) (edited_all (seen p (step s e).answer) ns) (place p s cs ns e ∷ past)

-- where it holds the test does
abbrev pub Passes : Project → AtPlaces → (List CountedEvent → CountedEvent → Bool) → Type 0
Passes p Holds test =
    (s : State) (e : Event) (cs : List Counted) (ns : List Numbers) (past : List CountedEvent) → IsPlace p s cs → Holds s cs ns past → test past (place p s cs ns e) ≡ true

abbrev pub no_counts : Project → List Counted
no_counts p = map (λ (d : AuditTask). uncounted) (audit_tasks p.tasks p.schedule)

abbrev pub no_edits : Project → List Numbers
no_edits p = replicate (length p.programs) unedited

module _ (p : Project) (valid : IsValidProject p) (Holds : AtPlaces) (test : List CountedEvent → CountedEvent → Bool) (next : GoesOn p valid Holds) (each : Passes p Holds test) where
  all_from : (s : State) (es : List Event) (cs : List Counted) (ns : List Numbers) (past : List CountedEvent) → IsPlace p s cs → Holds s cs ns past → each_with_past test past (places_from p s cs ns es) ≡ true
  all_from s [] cs ns past h k = refl
  all_from s (e ∷ es) cs ns past h k =
      and_from (test past (place p s cs ns e)) _ (each s e cs ns past h k)
      (all_from (step s e).state es (counts_next p valid s e cs) (edited_all (seen p (step s e).answer) ns) (place p s cs ns e ∷ past) (place_next p valid s e cs h) (next s e cs ns past h k))

  pub all_of_run : Holds (start p) (no_counts p) (no_edits p) [] → (journal : List Event) → each_with_past test [] (counted_run p journal) ≡ true
  all_of_run first journal = all_from (start p) journal (no_counts p) (no_edits p) [] (first_place p valid) first
