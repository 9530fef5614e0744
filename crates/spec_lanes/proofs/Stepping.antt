-- A processor step is made, with its tick: the journal is served with the same counts.
use Rattle.std.proofs.Common.{◌≡◌, ℕ, ◌+◌, ◌-◌, ◌/◌, ◌%◌, ◌<◌, ◌≤◌, inl, inr, Bool, true, false, cond, not, List, [], ◌∷◌, ◌++◌, length, get_or, refl, sym, ◌∙◌, ap, subst, arith, length-append}
use Rattle.std.specs.Prelude.{◌&&◌, nat_eq, nat_le}
use Rattle.std.specs.List.{list_all}
use Rattle.std.proofs.lemmas.Bool.{cases_eq, cases_lt, eqb-true, eqb-false, le-leb, false≢true}
use Rattle.spec_base.specs.declared.limits.TheConstants.{MAX_IMAGE_BYTES}
use Rattle.spec_scan.specs.declared.bound.Copying.{Copying}
use Rattle.spec_machine.specs.declared.event.Event.{Event}
use Rattle.spec_machine.specs.declared.event.Event.TheVariants.{Cpu, Tick}
use Rattle.spec_machine.specs.Events.{steps_of}
use Rattle.spec_machine.specs.Machine.{step, trace_from, run}
use Rattle.spec_machine.specs.Project.{Project}
use Rattle.spec_machine.specs.State.{State, start}
use Rattle.spec_text.specs.Scripts.{Script}
use Rattle.spec_schedule.specs.Partial.{made_by, LaneDid, is_of_lane, is_held, is_held_after, is_held_over, is_paced, tick_at, through_step, IsPartial}
use Rattle.spec_reach.proofs.Reached.{IsReached, reached_next}
use Rattle.spec_lanes.specs.Turns.{lane_of, ticks_of, most_steps, is_spent}
use Rattle.spec_lanes.specs.Served.{HasOpenCps, IsServed}
use Rattle.spec_lanes.specs.Laws.{StepsServe}
use Rattle.spec_lanes.proofs.Ranges.{each_in, all_in, IsNext, next_of_pace}
use Rattle.spec_lanes.proofs.LaneLists.{did_long, did_from}
use Rattle.spec_lanes.proofs.Appended.{steps_on, ticks_on, made_same, did_same, answers_on, opens_on, lanes_on, run_over}
use Rattle.spec_lanes.proofs.Places.{paced_cpu, paced_tick, through_on, through_cpu}
use Rattle.spec_lanes.proofs.OpenCopies.{open_before, takes_element, held_by, left_few}
use Rattle.spec_lanes.proofs.Scripts.{proper_of, lane_did}

no_step : Tick ≡ Cpu → ⊥
no_step e = cc e

-- a CPS is open, or fewer steps were made than the script wants
still_held : (steps made : ℕ) (b : Bool) → (nat_le steps made && not b) ≡ false → steps ≤ made → b ≡ true
still_held steps made true e l = refl
still_held steps made false e l = absurd (false≢true (sym e ∙ ap (λ (x : Bool). x && true) (le-leb steps made l)))

-- the events of a step after the step itself: none, or its tick
pub record IsRest (p : Project) (script : Script) (es ds : List Event) : Type 0 where
  pub steps : steps_of (Cpu ∷ ds) ≡ 1
  pub many : length (Cpu ∷ ds) ≡ 1 + ticks_of (Cpu ∷ ds)
  pub made : (lane n : ℕ) → made_by lane n (Cpu ∷ ds) ≡ []
  pub of_lane : (lanes : ℕ) → list_all (is_of_lane lanes) (Cpu ∷ ds) ≡ true
  pub free : (s : State) → list_all (λ x. not (is_held x)) (trace_from s (Cpu ∷ ds)) ≡ true
  pub whole : tick_at ds ≡ ds
  pub paced : is_paced script.pace (es ++ Cpu ∷ ds) ≡ true
  pub ticks : ticks_of es + ticks_of (Cpu ∷ ds) ≡ (steps_of es + 1) / script.pace
  pub opened : (t : ℕ) (c : Copying) → HasOpenCps (run p (es ++ Cpu ∷ ds)) t c → HasOpenCps (step (run p es) Cpu).state t c

module _ (p : Project) (script : Script) (counts : List ℕ) (es ds : List Event) (h : IsServed p script counts es) (rest : IsRest p script es ds) (unspent : is_spent p script es ≡ false) where
  abbrev more : List Event
  more = es ++ Cpu ∷ ds

  reached : IsReached p (run p es)
  reached = record { journal = es; is = refl }

  reached_more : IsReached p (run p more)
  reached_more = record { journal = more; is = refl }

  steps_more : steps_of more ≡ steps_of es + 1
  steps_more = let a = steps_on es (Cpu ∷ ds) in let b = rest.steps in omega arith

  ticks_more : ticks_of more ≡ ticks_of es + ticks_of (Cpu ∷ ds)
  ticks_more = ticks_on es (Cpu ∷ ds)

  held_now : script.steps ≤ steps_of es → is_held_after p es ≡ true
  held_now ge = still_held script.steps (steps_of es) (is_held_after p es) unspent ge

  each_did : (i : ℕ) → i < length script.lanes → LaneDid more i (get_or counts i 0) (lane_of script i)
  each_did i lt = did_same es more i (get_or counts i 0) (lane_of script i) (made_same i es (Cpu ∷ ds) (rest.made i (ticks_of es))) (lane_did p script counts es h i lt)

  held_over : is_held_over p script.steps more ≡ true
  held_over =
      all_in (λ k. is_held_after p (through_step k more)) script.steps (steps_of more - script.steps)
      (λ k ge lt.
      let many = steps_more in
      let up : k ≤ steps_of es = omega arith in
      let same : through_step k more ≡ through_step k es = through_on k es Cpu ds refl up in
      elim (cases_eq k (steps_of es)) [
        | inl last ↦
            (let beyond : script.steps ≤ steps_of es = omega arith in
            ap (is_held_after p) same ∙ (ap (λ i. is_held_after p (through_step i es)) last ∙ h.since (held_now beyond)))
        | inr earlier ↦
            ap (is_held_after p) same
            ∙ each_in (λ i. is_held_after p (through_step i es)) script.steps (steps_of es - script.steps) h.partial.steps k ge (omega arith)
      ])

  partial_more : IsPartial p script counts more
  partial_more = record {
    opening = opens_on es (Cpu ∷ ds) _ h.partial.opening;
    rest = lanes_on (length script.lanes) es (Cpu ∷ ds) _ h.partial.opening h.partial.rest (rest.of_lane (length script.lanes));
    lanes = did_from more counts script.lanes (did_long es counts script.lanes h.partial.lanes) each_did;
    answers = answers_on p es (Cpu ∷ ds) h.partial.answers (rest.free (run p es));
    ticks = rest.paced;
    steps = held_over;
  }

  -- each step beyond the script's takes an element
  taken_more : script.steps ≤ steps_of more → (t : ℕ) (c : Copying) → HasOpenCps (run p more) t c → (steps_of more - script.steps) + c.left ≤ MAX_IMAGE_BYTES
  taken_more ge t c k =
      let many = steps_more in
      elim (cases_lt (steps_of es) script.steps) [
        | inl first ↦ (let few = (left_few p (run p more) t c h.valid reached_more k).1 in omega arith)
        | inr beyond ↦
            (let some = held_by p (run p es) reached (held_now beyond) in
            let took = takes_element p (run p es) reached some.0 some.1 some.2 t c (rest.opened t c k) in
            let old = h.taken beyond t took.before took.had in
            let fewer = took.fewer in
            omega arith)
      ]

  few_more : steps_of more ≤ most_steps script
  few_more =
      let many = steps_more in
      elim (cases_lt (steps_of es) script.steps) [
        | inl first ↦ omega arith
        | inr beyond ↦
            (let some = held_by p (run p es) reached (held_now beyond) in
            let left = (left_few p (run p es) some.0 some.1 h.valid reached some.2).0 in
            let old = h.taken beyond some.0 some.1 some.2 in
            omega arith)
      ]

  through_more : through_step (steps_of more) more ≡ more
  through_more = through_cpu es ds rest.steps rest.whole

  pub served_step : IsServed p script counts more
  served_step = record {
    valid = h.valid;
    proper = h.proper;
    partial = partial_more;
    events = (let a = length-append es (Cpu ∷ ds) in let b = steps_more in let c = ticks_more in let d = rest.many in let e = h.events in omega arith);
    ticks = ticks_more ∙ (rest.ticks ∙ ap (λ n. n / script.pace) (sym steps_more));
    since = λ k. ap (is_held_after p) through_more ∙ k;
    taken = taken_more;
    few = few_more;
  }

-- ---- with and without a tick

module _ (p : Project) (script : Script) (counts : List ℕ) (es : List Event) (h : IsServed p script counts es) where
  pace_next : IsNext (steps_of es) script.pace
  pace_next = next_of_pace (steps_of es) script.pace (proper_of script h.proper).pace

  step_more : steps_of (es ++ Cpu ∷ []) ≡ steps_of es + 1
  step_more = steps_on es (Cpu ∷ [])

  no_rest : nat_eq ((steps_of es + 1) % script.pace) 0 ≡ false → IsRest p script es []
  no_rest none = record {
    steps = refl;
    many = refl;
    made = λ lane n. refl;
    of_lane = λ lanes. refl;
    free = λ s. refl;
    whole = refl;
    paced = paced_cpu script.pace es (ap (λ n. nat_eq (n % script.pace) 0) step_more ∙ none) h.partial.ticks;
    ticks = (let a = h.ticks in let b = pace_next.within (eqb-false ((steps_of es + 1) % script.pace) 0 none) in omega arith);
    opened = λ t c k. subst (λ (s : State). HasOpenCps s t c) (run_over (start p) es (Cpu ∷ [])) k;
  }

  tick_rest : nat_eq ((steps_of es + 1) % script.pace) 0 ≡ true → IsRest p script es (Tick ∷ [])
  tick_rest due = record {
    steps = refl;
    many = refl;
    made = λ lane n. refl;
    of_lane = λ lanes. refl;
    free = λ s. refl;
    whole = refl;
    paced = paced_tick script.pace es (ap (λ n. nat_eq (n % script.pace) 0) step_more ∙ due) h.partial.ticks;
    ticks = (let a = h.ticks in let b = pace_next.on (eqb-true ((steps_of es + 1) % script.pace) 0 due) in omega arith);
    opened = λ t c k.
        let reached : IsReached p (run p es) = record { journal = es; is = refl } in
        open_before p (step (run p es) Cpu).state Tick t c no_step (reached_next p (run p es) Cpu reached)
        (subst (λ (s : State). HasOpenCps s t c) (run_over (start p) es (Cpu ∷ Tick ∷ [])) k);
  }

  by_pace : (b : Bool) → nat_eq ((steps_of es + 1) % script.pace) 0 ≡ b → is_spent p script es ≡ false → IsServed p script counts (es ++ cond b (Cpu ∷ Tick ∷ []) (Cpu ∷ []))
  by_pace true e unspent = served_step p script counts es (Tick ∷ []) h (tick_rest e) unspent
  by_pace false e unspent = served_step p script counts es [] h (no_rest e) unspent

pub steps_serve : StepsServe
steps_serve p script counts es h unspent = by_pace p script counts es h (nat_eq ((steps_of es + 1) % script.pace) 0) refl unspent
