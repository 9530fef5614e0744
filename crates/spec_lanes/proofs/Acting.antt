-- A due action is made: the journal is served with one more count.
use Rattle.std.proofs.Common.{◌≡◌, ℕ, ◌+◌, ◌-◌, ◌/◌, ◌<◌, ◌≤◌, inl, inr, true, false, not, List, [], ◌∷◌, ◌++◌, length, get_or, get_or-set_same, get_or-set_other, Some, refl, sym, ◌∙◌, ap, subst, arith, length-append}
use Rattle.std.specs.Prelude.{nat_eq, nat_le, nat_lt, sum, slice_get}
use Rattle.std.specs.List.{list_all}
use Rattle.std.proofs.lemmas.Bool.{and_from, and_parts, cases_eq, lt-ltb, ne_eqb, not_from_false, not-true}
use Rattle.std.proofs.lemmas.List.{length-set}
use Rattle.std.proofs.lemmas.List.Sums.{sum_by-set}
use Rattle.std.proofs.lemmas.Option.{slice_get_within, get_or_from_slice_get}
use Rattle.spec_base.specs.declared.limits.TheConstants.{OWN_LANE}
use Rattle.spec_tables.specs.Tasks.{held}
use Rattle.spec_scan.specs.declared.bound.Copying.{Copying}
use Rattle.spec_machine.specs.declared.event.Action.{Action}
use Rattle.spec_machine.specs.declared.event.Event.{Event}
use Rattle.spec_machine.specs.declared.event.Event.TheVariants.{Cpu, Act}
use Rattle.spec_machine.specs.Events.{steps_of}
use Rattle.spec_machine.specs.Machine.{step, run}
use Rattle.spec_machine.specs.Project.{Project}
use Rattle.spec_machine.specs.State.{State}
use Rattle.spec_text.specs.declared.script.Timed.{Timed}
use Rattle.spec_text.specs.Scripts.{Script}
use Rattle.spec_schedule.specs.Partial.{LaneDid, LanesDid, is_of_lane, is_held_after, is_held_over, through_step, IsPartial}
use Rattle.spec_reach.proofs.Reached.{IsReached, run_more}
use Rattle.spec_lanes.specs.Turns.{lane_of, done_by, ticks_of, next_of, would_be_held, is_spent}
use Rattle.spec_lanes.specs.Served.{HasOpenCps, IsServed}
use Rattle.spec_lanes.specs.Laws.{with_one_more, HasActed, DueActionsServe}
use Rattle.spec_lanes.proofs.Ranges.{each_in, all_in}
use Rattle.spec_lanes.proofs.LaneLists.{did_long, did_from}
use Rattle.spec_lanes.proofs.Appended.{steps_on, ticks_on, made_other, did_same, did_next, answers_on, opens_on, lanes_on}
use Rattle.spec_lanes.proofs.Places.{paced_act, through_on}
use Rattle.spec_lanes.proofs.OpenCopies.{open_before, held_before, closed_after}
use Rattle.spec_lanes.proofs.Scripts.{proper_of, lane_within, next_due, lane_did, count_is}

no_step : (lane : ℕ) (a : Action) → Act lane a ≡ Cpu → ⊥
no_step lane a e = cc e

module _ (p : Project) (script : Script) (counts : List ℕ) (es : List Event) (lane : ℕ) (t : Timed) (h : IsServed p script counts es) (next : next_of script es lane ≡ Some t) (come : t.at ≤ ticks_of es) where
  abbrev one : Event
  one = Act lane t.action

  abbrev more : List Event
  more = es ++ one ∷ []

  abbrev done : List ℕ
  done = with_one_more counts lane

  lane_in : lane < length script.lanes
  lane_in = lane_within script lane (done_by lane es) t next

  long : length counts ≡ length script.lanes
  long = did_long es counts script.lanes h.partial.lanes

  reached : IsReached p (run p es)
  reached = record { journal = es; is = refl }

  -- the machine doesn't answer it Held
  abbrev IsFree : Type 0
  IsFree = not (would_be_held p es lane t.action) ≡ true

  -- ---- numbers

  same_steps : steps_of more ≡ steps_of es
  same_steps = steps_on es (one ∷ []) ∙ (let e : steps_of es + 0 ≡ steps_of es = omega arith in e)

  same_ticks : ticks_of more ≡ ticks_of es
  same_ticks = ticks_on es (one ∷ []) ∙ (let e : ticks_of es + 0 ≡ ticks_of es = omega arith in e)

  pub one_more : sum done ≡ sum counts + 1
  one_more =
      let e = sum_by-set (λ (k : ℕ). k) counts lane (get_or counts lane 0 + 1) 0 (let a = long in let b = lane_in in omega arith) in
      omega arith

  -- ---- what the lanes did

  own_did : LaneDid more lane (get_or counts lane 0 + 1) (lane_of script lane)
  own_did =
      let count = count_is p script counts es h lane lane_in in
      let here : slice_get (lane_of script lane) (get_or counts lane 0) ≡ Some t = subst (λ k. slice_get (lane_of script lane) k ≡ Some t) count next in
      did_next es lane (get_or counts lane 0) (lane_of script lane) t (lane_did p script counts es h lane lane_in)
      (slice_get_within (lane_of script lane) (get_or counts lane 0) t here) (get_or_from_slice_get (lane_of script lane) (get_or counts lane 0) t t here) come

  each_did : (i : ℕ) → i < length script.lanes → LaneDid more i (get_or done i 0) (lane_of script i)
  each_did i lt =
      elim (cases_eq lane i) [
        | inl same ↦
            (let count : get_or done lane 0 ≡ get_or counts lane 0 + 1 = get_or-set_same counts lane (get_or counts lane 0 + 1) 0 (let a = long in let b = lane_in in omega arith) in
            subst (λ k. LaneDid more k (get_or done k 0) (lane_of script k)) same
            (subst (λ n. LaneDid more lane n (lane_of script lane)) (sym count) own_did))
        | inr other ↦
            (let count : get_or done i 0 ≡ get_or counts i 0 = get_or-set_other counts lane i (get_or counts lane 0 + 1) 0 (λ q. other (sym q)) in
            subst (λ n. LaneDid more i n (lane_of script i)) (sym count)
            (did_same es more i (get_or counts i 0) (lane_of script i) (made_other i lane t.action es other) (lane_did p script counts es h i lt)))
      ]

  lanes_did : LanesDid more done script.lanes
  lanes_did = did_from more done script.lanes (length-set counts lane (get_or counts lane 0 + 1) ∙ long) each_did

  -- ---- the rest of a partial journal

  of_lane : list_all (is_of_lane (length script.lanes)) (one ∷ []) ≡ true
  of_lane =
      let few = (proper_of script h.proper).lanes in
      let below = lane_in in
      and_from (is_of_lane (length script.lanes) one) true
      (and_from (not (nat_eq lane OWN_LANE)) (nat_lt lane (length script.lanes)) (not_from_false (nat_eq lane OWN_LANE) (ne_eqb lane OWN_LANE (λ e. absurd (omega arith)))) (lt-ltb lane (length script.lanes) below))
      refl

  held_over : is_held_over p script.steps more ≡ true
  held_over =
      all_in (λ k. is_held_after p (through_step k more)) script.steps (steps_of more - script.steps)
      (λ k ge lt.
      let same = same_steps in
      let up : k ≤ steps_of es = omega arith in
      let within : k < script.steps + (steps_of es - script.steps) = omega arith in
      ap (is_held_after p) (through_on k es one [] refl up)
      ∙ each_in (λ i. is_held_after p (through_step i es)) script.steps (steps_of es - script.steps) h.partial.steps k ge within)

  state_is : (run p more) ≡ (step (run p es) one).state
  state_is = run_more p es one

  open_was : (q : ℕ) (c : Copying) → HasOpenCps (run p more) q c → HasOpenCps (run p es) q c
  open_was q c k =
      open_before p (run p es) one q c (no_step lane t.action) reached (subst (λ (s : State). HasOpenCps s q c) state_is k)

  held_was : is_held_after p more ≡ true → is_held_after p es ≡ true
  held_was k = held_before p (run p es) one (no_step lane t.action) reached (sym (ap (λ (s : State). held s.table) state_is) ∙ k)

  partial_more : IsFree → IsPartial p script done more
  partial_more free = record {
    opening = opens_on es (one ∷ []) _ h.partial.opening;
    rest = lanes_on (length script.lanes) es (one ∷ []) _ h.partial.opening h.partial.rest of_lane;
    lanes = lanes_did;
    answers = answers_on p es (one ∷ []) h.partial.answers (and_from _ true free refl);
    ticks = paced_act script.pace es lane t.action h.partial.ticks;
    steps = held_over;
  }

  through_same : through_step (steps_of more) more ≡ through_step (steps_of es) es
  through_same = ap (λ n. through_step n more) same_steps ∙ through_on (steps_of es) es one [] refl (let e : steps_of es ≤ steps_of es = omega arith in e)

  pub served_more : IsFree → IsServed p script done more
  served_more free = record {
    valid = h.valid;
    proper = h.proper;
    partial = partial_more free;
    events = (let a = length-append es (one ∷ []) in let b = same_steps in let c = same_ticks in let d = one_more in let e = h.events in omega arith);
    ticks = same_ticks ∙ (h.ticks ∙ ap (λ n. n / script.pace) (sym same_steps));
    since = λ k. ap (is_held_after p) through_same ∙ h.since (held_was k);
    taken = λ ge q c k. (let same = same_steps in let old = h.taken (omega arith) q c (open_was q c k) in omega arith);
    few = (let same = same_steps in let old = h.few in omega arith);
  }

  pub still_spent : is_spent p script es ≡ true → is_spent p script more ≡ true
  still_spent k =
      let parts = and_parts (nat_le script.steps (steps_of es)) (not (is_held_after p es)) k in
      let closed : is_held_after p more ≡ false =
      ap (λ (s : State). held s.table) state_is ∙ closed_after p (run p es) one (no_step lane t.action) reached (not-true (is_held_after p es) parts.1) in
      and_from (nat_le script.steps (steps_of more)) (not (is_held_after p more)) (ap (nat_le script.steps) same_steps ∙ parts.0) (not_from_false (is_held_after p more) closed)

pub due_actions_serve : DueActionsServe
due_actions_serve p script counts es lane a h due =
    let n = next_due p script es lane a due in
    let t = n.timed in
    subst (λ (x : Action). HasActed p script counts es lane x) n.is
    (record {
      served = served_more p script counts es lane t h n.next n.come (not_from_false _ n.free);
      one_more = one_more p script counts es lane t h n.next n.come;
      still_spent = still_spent p script counts es lane t h n.next n.come;
    })
