-- What is counted along a run is what the machine has.
use Rattle.std.proofs.Common.{List, [], ◌∷◌, length, map}
use Rattle.std.specs.Prelude.{fold, replicate}
use Rattle.spec_machine.specs.declared.event.Event.{Event}
use Rattle.spec_machine.specs.Machine.{step, run_from, trace_from}
use Rattle.spec_machine.specs.Project.{Project}
use Rattle.spec_machine.specs.State.{State, start}
use Rattle.spec_machine.specs.ValidProject.{IsValidProject}
use Rattle.spec_schedule.specs.Counting.{Counted, uncounted, counted_all, Numbers, unedited, edited_all}
use Rattle.spec_schedule.specs.TraceView.{audit_tasks, seen}
use Rattle.spec_legal.specs.CountedRuns.{CountsAreTheMachines, NumbersAreTheBooks}
use Rattle.spec_legal.proofs.Along.{IsPlace, first_place, place_next, counts_next}
use Rattle.spec_legal.proofs.Versions.{HasNumbers, numbers_next, first_numbers}

module _ (p : Project) (valid : IsValidProject p) where
  -- the counts after the events from a state on
  counted_from : (s : State) (es : List Event) (cs : List Counted) → IsPlace p s cs → IsPlace p (run_from s es) (fold (λ xs e. counted_all (audit_tasks p.tasks p.schedule) e xs) cs (map (seen p) (trace_from s es)))
  counted_from s [] cs h = h
  counted_from s (e ∷ es) cs h = counted_from (step s e).state es (counts_next p valid s e cs) (place_next p valid s e cs h)

  numbered_from : (s : State) (es : List Event) (cs : List Counted) (ns : List Numbers) → IsPlace p s cs → HasNumbers p s.books ns → HasNumbers p (run_from s es).books (fold (λ xs e. edited_all e xs) ns (map (seen p) (trace_from s es)))
  numbered_from s [] cs ns h k = k
  numbered_from s (e ∷ es) cs ns h k = numbered_from (step s e).state es (counts_next p valid s e cs) (edited_all (seen p (step s e).answer) ns) (place_next p valid s e cs h) (numbers_next p valid s e cs ns h k)

pub counts_are_the_machines : CountsAreTheMachines
counts_are_the_machines p journal t valid l =
    let h = (counted_from p valid (start p) journal (map (λ d. uncounted) (audit_tasks p.tasks p.schedule)) (first_place p valid)).mirrors.shows t l in
    record { up = h.up; ended = h.ended; regions = h.region; cps = h.cps }

pub numbers_are_the_books : NumbersAreTheBooks
numbers_are_the_books p journal g valid = (numbered_from p valid (start p) journal (map (λ d. uncounted) (audit_tasks p.tasks p.schedule)) (replicate (length p.programs) unedited) (first_place p valid) (first_numbers p)).same g
