-- All that holds of a state that a journal of a valid project leads to, gathered.
use Rattle.std.proofs.Common.{List, [], ◌∷◌, ◌++◌, length, refl, ◌∙◌, ap, subst, arith, length-append}
use Rattle.spec_base.proofs.Lists.{value_of_some}
use Rattle.spec_tables.specs.Tasks.{state_of}
use Rattle.spec_machine.specs.declared.event.Event.{Event}
use Rattle.spec_machine.specs.Machine.{step, run}
use Rattle.spec_machine.specs.Project.{Project}
use Rattle.spec_machine.specs.State.{State}
use Rattle.spec_machine.specs.ValidProject.{IsValidProject}
use Rattle.spec_machine.proofs.OrderlyLaws.{one_open}
use Rattle.spec_machine.proofs.OrderlyRuns.{run_orderly}
use Rattle.spec_reach.specs.Reachable.{IsReachable, StartIsAfter, EventsLeadOn, AllIsReachable}
use Rattle.spec_reach.proofs.Bounds.{runs_are_bounded}
use Rattle.spec_reach.proofs.First.{open_is_first}
use Rattle.spec_reach.proofs.Images.{images_keep_length}
use Rattle.spec_reach.proofs.Once.{programs_are_scanned_once}
use Rattle.spec_reach.proofs.Programs.{tasks_are_at_programs}
use Rattle.spec_reach.proofs.Reached.{run_more, scans_agree}
use Rattle.spec_reach.proofs.Sizes.{runs_keep_sizes}
use Rattle.spec_reach.proofs.Texts.{books_can_run, scans_can_run}

pub start_is_after : StartIsAfter
start_is_after p = record { journal = []; many = refl; is = refl }

pub events_lead_on : EventsLeadOn
events_lead_on p n s e h = record {
  journal = h.journal ++ e ∷ [];
  many = (let l = length-append h.journal (e ∷ []) in let m = h.many in omega arith);
  is = run_more p h.journal e ∙ ap (λ (x : State). (step x e).state) h.is;
}

of_run : (p : Project) (journal : List Event) → IsValidProject p → IsReachable p (length journal) (run p journal)
of_run p journal valid =
    let o = run_orderly p journal in
    record {
      sizes = runs_keep_sizes p journal;
      image = images_keep_length p journal;
      in_run = λ t h. (let u = value_of_some (state_of (run p journal).table t) h in o.in_run t u.0 u.1);
      allowed = λ t h. (let u = value_of_some (state_of (run p journal).table t) h in o.allowed t u.0 u.1);
      differ = o.differ;
      below = o.below;
      alone = one_open p journal;
      first = open_is_first p journal;
      agree = scans_agree p journal;
      programs = λ t. tasks_are_at_programs p journal t valid;
      once = λ t u x y. programs_are_scanned_once p journal t u x y valid;
      bounds = runs_are_bounded p journal;
      books = books_can_run p journal valid;
      rungs = λ t scan. scans_can_run p journal t scan valid;
    }

pub all_is_reachable : AllIsReachable
all_is_reachable p n s valid h = subst (IsReachable p n) h.is (subst (λ i. IsReachable p i (run p h.journal)) h.many (of_run p h.journal valid))
