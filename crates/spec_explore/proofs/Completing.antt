-- A partial journal goes on to a complete one: by steps until they are spent, and by the actions that are left.
use Rattle.std.proofs.Common.{◌≡◌, ℕ, zero, suc, ◌+◌, ◌-◌, ◌<◌, ◌≤◌, ◌⊎◌, inl, inr, Bool, true, false, not, List, [], ◌∷◌, ◌++◌, length, map, Option, Some, None, refl, sym, ◌∙◌, ap, subst, arith}
use Rattle.std.specs.Prelude.{nat_le, sum}
use Rattle.std.proofs.lemmas.Bool.{and_parts, cases_lt, leb-true, not-true}
use Rattle.std.proofs.lemmas.List.{append-nil, append_assoc, ext_get_or, get_or-map, length-map}
use Rattle.spec_machine.specs.declared.event.Action.{Action}
use Rattle.spec_machine.specs.declared.event.Event.{Event}
use Rattle.spec_machine.specs.declared.event.Event.TheVariants.{Act}
use Rattle.spec_machine.specs.Events.{steps_of}
use Rattle.spec_machine.specs.Project.{Project}
use Rattle.spec_text.specs.declared.script.Timed.{Timed}
use Rattle.spec_text.specs.Scripts.{Script, actions_in}
use Rattle.spec_schedule.specs.Partial.{is_held_after, IsPartial, IsComplete}
use Rattle.spec_lanes.specs.Turns.{lane_of, done_by, due_action, is_spent, paced_step, most_steps}
use Rattle.spec_lanes.specs.Served.{IsServed}
use Rattle.spec_lanes.specs.Laws.{with_one_more}
use Rattle.spec_lanes.proofs.Acting.{due_actions_serve}
use Rattle.spec_lanes.proofs.Appended.{steps_on}
use Rattle.spec_lanes.proofs.LaneLists.{did_long, few_counts}
use Rattle.spec_lanes.proofs.Serving.{counts_tell, none_is_left}
use Rattle.spec_lanes.proofs.Stepping.{steps_serve}
use Rattle.spec_explore.specs.Completion.{Completes, PartialJournalsComplete, NeverIsExact}
use Rattle.spec_explore.specs.Questions.{is_late}
use Rattle.spec_explore.proofs.Partials.{partial_journals_are_served}
use Rattle.spec_explore.proofs.Layers.{paced_one}

module _ (p : Project) (script : Script) where
  -- every action of the lanes below n was made
  abbrev AreDone : List Event → ℕ → Type 0
  AreDone es n = (lane : ℕ) → lane < n → done_by lane es ≡ length (lane_of script lane)

  -- a lane has a due action
  abbrev HasDue : List Event → Type 0
  HasDue es = (lane : ℕ) × (a : Action) × (due_action p script es lane ≡ Some a)

  one_lane : (counts : List ℕ) (es : List Event) (n : ℕ) → IsServed p script counts es → is_spent p script es ≡ true → n < length script.lanes → AreDone es n → (o : Option Action) → due_action p script es n ≡ o → AreDone es (n + 1) ⊎ HasDue es
  one_lane counts es n h spent lt done (Some a) e = inr (n, a, e)
  one_lane counts es n h spent lt done None e =
      inl (λ lane below.
      elim (cases_lt lane n) [
        | inl before ↦ done lane before
        | inr last ↦
            (let same : n ≡ lane = omega arith in
            subst (λ i. done_by i es ≡ length (lane_of script i)) same ((none_is_left p script counts es n h e spent).all_made lt))
      ])

  find_due : (counts : List ℕ) (es : List Event) (n : ℕ) → IsServed p script counts es → is_spent p script es ≡ true → n ≤ length script.lanes → AreDone es n ⊎ HasDue es
  find_due counts es zero h spent le = inl (λ lane lt. absurd (omega arith))
  find_due counts es (suc n) h spent le =
      elim (find_due counts es n h spent (omega arith)) [
        | inr due ↦ inr due
        | inl done ↦
            (let more : n < length script.lanes = omega arith in
            let e : n + 1 ≡ suc n = omega arith in
            subst (λ k. AreDone es k ⊎ HasDue es) e (one_lane counts es n h spent more done (due_action p script es n) refl))
      ]

  -- with all done it is complete
  whole : (counts : List ℕ) (es : List Event) → IsServed p script counts es → is_spent p script es ≡ true → AreDone es (length script.lanes) → IsComplete p script es
  whole counts es h spent done =
      let long = did_long es counts script.lanes h.partial.lanes in
      let parts = and_parts (nat_le script.steps (steps_of es)) (not (is_held_after p es)) spent in
      let all : counts ≡ map (λ (list : List Timed). length list) script.lanes =
      ext_get_or 0 counts (map (λ (list : List Timed). length list) script.lanes) (long ∙ sym (length-map script.lanes (λ (list : List Timed). length list)))
      (λ i lt.
      let within : i < length script.lanes = omega arith in
      (counts_tell p script counts es i h within).count
      ∙ (done i within ∙ sym (get_or-map (λ (list : List Timed). length list) script.lanes i [] 0 within))) in
      record {
        partial = subst (λ (ns : List ℕ). IsPartial p script ns es) all h.partial;
        enough = leb-true script.steps (steps_of es) parts.0;
        closed = not-true (is_held_after p es) parts.1;
      }

  go_on : (es made : List Event) → Completes p script (es ++ made) → Completes p script es
  go_on es made c = (made ++ c.0, subst (λ (xs : List Event). IsComplete p script xs) (append_assoc es made c.0) c.1)

  -- what is left: processor steps that there may be, and actions
  abbrev left : List ℕ → List Event → ℕ
  left counts es = (most_steps script - steps_of es) + (actions_in script - sum counts)

  complete_from : (n : ℕ) (counts : List ℕ) (es : List Event) → IsServed p script counts es → left counts es ≤ n → (b : Bool) → is_spent p script es ≡ b → Completes p script es
  complete_from zero counts es h le false e =
      absurd (let k = steps_serve p script counts es h e in
      let s = steps_on es (paced_step script.pace (steps_of es + 1)) in
      let one = paced_one script.pace (steps_of es + 1) in
      let few = k.few in
      omega arith)
  complete_from (suc n) counts es h le false e =
      let made : List Event = paced_step script.pace (steps_of es + 1) in
      let k = steps_serve p script counts es h e in
      let s = steps_on es made in
      let one = paced_one script.pace (steps_of es + 1) in
      let few = k.few in
      go_on es made (complete_from n counts (es ++ made) k (omega arith) (is_spent p script (es ++ made)) refl)
  complete_from zero counts es h le true e =
      elim (find_due counts es (length script.lanes) h e (let same : length script.lanes ≤ length script.lanes = omega arith in same)) [
        | inl done ↦ ([], subst (λ (xs : List Event). IsComplete p script xs) (sym (append-nil es)) (whole counts es h e done))
        | inr due ↦
            absurd (let k = due_actions_serve p script counts es due.0 due.1 h due.2 in
            let few = few_counts (es ++ Act due.0 due.1 ∷ []) 0 (with_one_more counts due.0) script.lanes k.served.partial.lanes in
            let more = k.one_more in
            omega arith)
      ]
  complete_from (suc n) counts es h le true e =
      elim (find_due counts es (length script.lanes) h e (let same : length script.lanes ≤ length script.lanes = omega arith in same)) [
        | inl done ↦ ([], subst (λ (xs : List Event). IsComplete p script xs) (sym (append-nil es)) (whole counts es h e done))
        | inr due ↦
            (let made : List Event = Act due.0 due.1 ∷ [] in
            let k = due_actions_serve p script counts es due.0 due.1 h due.2 in
            let few = few_counts (es ++ made) 0 (with_one_more counts due.0) script.lanes k.served.partial.lanes in
            let more = k.one_more in
            let s = steps_on es made in
            go_on es made (complete_from n (with_one_more counts due.0) (es ++ made) k.served (omega arith) (is_spent p script (es ++ made)) refl))
      ]

pub partial_journals_complete : PartialJournalsComplete
partial_journals_complete p script counts es h =
    complete_from p script (left p script counts es) counts es h (let same : left p script counts es ≤ left p script counts es = omega arith in same) (is_spent p script es) refl

pub never_is_exact : NeverIsExact
never_is_exact p script q valid proper none never k before e m lt =
    let journal : List Event = before ++ e ∷ m.after in
    let c = partial_journals_complete p script m.counts journal (partial_journals_are_served p script m.counts journal valid proper m.partial) in
    never before (m.after ++ c.0) e (subst (λ (xs : List Event). IsComplete p script xs) (append_assoc before (e ∷ m.after) c.0) c.1)
    (λ first rest lane split. ap (λ (w : Option ℕ). is_late w script first lane) none)
