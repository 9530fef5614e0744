-- Every partial journal is served.
use Rattle.std.proofs.Common.{ℕ, zero, suc, ◌+◌, ◌%◌, ◌≤◌, Bool, true, false, cond, List, [], ◌∷◌, length, arith, length-append}
use Rattle.std.specs.Prelude.{nat_eq, IsTrue}
use Rattle.spec_machine.specs.declared.event.Event.{Event}
use Rattle.spec_machine.specs.declared.event.Event.TheVariants.{Cpu, Tick, Act}
use Rattle.spec_machine.specs.Events.{steps_of}
use Rattle.spec_machine.specs.Project.{Project}
use Rattle.spec_machine.specs.ValidProject.{IsValidProject}
use Rattle.spec_text.specs.Scripts.{Script, is_script}
use Rattle.spec_schedule.specs.Partial.{IsPartial}
use Rattle.spec_lanes.specs.Turns.{paced_step}
use Rattle.spec_lanes.specs.Served.{IsServed}
use Rattle.spec_lanes.proofs.Acting.{due_actions_serve}
use Rattle.spec_lanes.proofs.Serving.{opening_is_served}
use Rattle.spec_lanes.proofs.Stepping.{steps_serve}
use Rattle.spec_explore.specs.Growth.{Last, Opened, Acted, Stepped, PartialJournalsAreServed}
use Rattle.spec_explore.proofs.Growth.{partial_journals_grow}

-- what a step makes isn't empty
pub paced_some : (pace n : ℕ) → 1 ≤ length (paced_step pace n)
paced_some pace n = go (nat_eq (n % pace) 0)
  where
    go : (b : Bool) → 1 ≤ length (cond b (Cpu ∷ Tick ∷ []) (Cpu ∷ []))
    go true = omega arith
    go false = omega arith

module _ (p : Project) (script : Script) (valid : IsValidProject p) (proper : IsTrue (is_script script)) where
  from_last : (n : ℕ) (counts : List ℕ) (es : List Event) → length es ≤ n → Last p script (IsPartial p script) counts es → IsServed p script counts es
  from_last n _ _ le Opened = opening_is_served p script valid proper
  from_last zero _ _ le (Acted counts es lane a h due) = absurd (let l = length-append es (Act lane a ∷ []) in omega arith)
  from_last (suc n) _ _ le (Acted counts es lane a h due) =
      let l = length-append es (Act lane a ∷ []) in
      (due_actions_serve p script counts es lane a (from_last n counts es (omega arith) (partial_journals_grow p script counts es valid proper h)) due).served
  from_last zero _ _ le (Stepped counts es h unspent) =
      absurd (let l = length-append es (paced_step script.pace (steps_of es + 1)) in let s = paced_some script.pace (steps_of es + 1) in omega arith)
  from_last (suc n) _ _ le (Stepped counts es h unspent) =
      let l = length-append es (paced_step script.pace (steps_of es + 1)) in
      let s = paced_some script.pace (steps_of es + 1) in
      steps_serve p script counts es (from_last n counts es (omega arith) (partial_journals_grow p script counts es valid proper h)) unspent

pub partial_journals_are_served : PartialJournalsAreServed
partial_journals_are_served p script counts es valid proper h =
    from_last p script valid proper (length es) counts es (omega arith) (partial_journals_grow p script counts es valid proper h)
