-- A partial journal is the opening, or a partial one and what it did last.
use Rattle.std.proofs.Common.{◌≡◌, ℕ, ◌+◌, ◌-◌, ◌<◌, ◌≤◌, inl, inr, true, false, cond, not, List, [], ◌∷◌, ◌++◌, length, get_or, get_or-set_same, get_or-set_other, drop, replicate, Some, None, refl, sym, ◌∙◌, ap, subst, arith}
use Rattle.std.specs.Prelude.{nat_eq, nat_le, nat_lt, slice_set, IsTrue}
use Rattle.std.specs.List.{list_all}
use Rattle.std.proofs.lemmas.Bool.{and_from, and_left, and_right, and_parts, cases_eq, cases_lt, le-leb, lt-leb, ltb-true, ne_eqb, not_from_false, not_from_true}
use Rattle.std.proofs.lemmas.List.{ext_get_or, get_or-replicate, length-replicate, length-set, set-get_or, set-set, take-append-le}
use Rattle.std.proofs.lemmas.Option.{slice_get_read}
use Rattle.spec_base.specs.declared.limits.TheConstants.{OWN_LANE}
use Rattle.spec_machine.specs.declared.event.Action.{Action}
use Rattle.spec_machine.specs.declared.event.Action.TheVariants.{ModeRun}
use Rattle.spec_machine.specs.declared.event.Event.{Event}
use Rattle.spec_machine.specs.declared.event.Event.TheVariants.{Cpu, Tick, Act}
use Rattle.spec_machine.specs.Events.{steps_of}
use Rattle.spec_machine.specs.Project.{Project}
use Rattle.spec_machine.specs.Machine.{trace_from, run, trace}
use Rattle.spec_text.specs.Scripts.{Script, is_script}
use Rattle.spec_schedule.specs.Partial.{made_if, made_by, LaneDid, is_of_lane, is_held_after, is_paced, through_step, IsPartial}
use Rattle.spec_lanes.specs.Turns.{lane_of, done_by, ticks_of, next_of, would_be_held, is_due, if_due, due_action, is_spent, paced_step}
use Rattle.spec_lanes.specs.Laws.{opening, with_one_more}
use Rattle.spec_lanes.proofs.Appended.{steps_on, made_same, made_other, did_same}
use Rattle.spec_lanes.proofs.LaneLists.{did_long, did_at, did_from, did_count}
use Rattle.spec_lanes.proofs.Places.{through_on}
use Rattle.spec_lanes.proofs.Ranges.{each_in}
use Rattle.spec_lanes.proofs.Scripts.{proper_of}
use Rattle.spec_explore.specs.Growth.{Last, Opened, Acted, Stepped, PartialJournalsGrow}
use Rattle.spec_explore.proofs.Ends.{PacedEnd, AtStart, AfterAct, AfterStep, AfterTick, paced_end}
use Rattle.spec_explore.proofs.Shrinks.{DidBefore, did_before}
use Rattle.spec_explore.proofs.Staying.{are_free, answers_off, lanes_off, held_over_off, free_last, still_open}

-- ---- a due action

module _ (p : Project) (script : Script) (counts : List ℕ) (es : List Event) (lane : ℕ) (a : Action) (some : 1 ≤ length es) (paced : is_paced script.pace es ≡ true) (h : IsPartial p script counts (es ++ Act lane a ∷ [])) where
  abbrev more : List Event
  more = es ++ Act lane a ∷ []

  of_lanes : (list_all (is_of_lane (length script.lanes)) (drop 1 es) ≡ true) × (list_all (is_of_lane (length script.lanes)) (Act lane a ∷ []) ≡ true)
  of_lanes = lanes_off (length script.lanes) es (Act lane a ∷ []) some h.rest

  lane_in : lane < length script.lanes
  lane_in =
      let here = (and_parts (is_of_lane (length script.lanes) (Act lane a)) true of_lanes.1).0 in
      ltb-true lane (length script.lanes) (and_parts (not (nat_eq lane OWN_LANE)) (nat_lt lane (length script.lanes)) here).1

  long : length counts ≡ length script.lanes
  long = did_long more counts script.lanes h.lanes

  did : DidBefore es lane a (get_or counts lane 0) (lane_of script lane)
  did = did_before es lane a (get_or counts lane 0) (lane_of script lane) (did_at more counts script.lanes h.lanes lane lane_in)

  abbrev fewer : List ℕ
  fewer = slice_set counts lane (done_by lane es)

  own : get_or fewer lane 0 ≡ done_by lane es
  own = get_or-set_same counts lane (done_by lane es) 0 (let l = long in let i = lane_in in omega arith)

  counts_same : with_one_more fewer lane ≡ counts
  counts_same =
      ap (λ n. slice_set fewer lane (n + 1)) own
      ∙ (set-set counts lane (done_by lane es) (done_by lane es + 1)
      ∙ (ap (slice_set counts lane) (sym did.fewer) ∙ set-get_or counts lane 0))

  each_did : (i : ℕ) → i < length script.lanes → LaneDid es i (get_or fewer i 0) (lane_of script i)
  each_did i lt =
      elim (cases_eq lane i) [
        | inl same ↦
            subst (λ k. LaneDid es k (get_or fewer k 0) (lane_of script k)) same
            (subst (λ n. LaneDid es lane n (lane_of script lane)) (sym own) did.did)
        | inr other ↦
            (let count : get_or fewer i 0 ≡ get_or counts i 0 = get_or-set_other counts lane i (done_by lane es) 0 (λ q. other (sym q)) in
            subst (λ n. LaneDid es i n (lane_of script i)) (sym count)
            (did_same more es i (get_or counts i 0) (lane_of script i) (sym (made_other i lane a es other)) (did_at more counts script.lanes h.lanes i lt)))
      ]

  answers : (are_free (trace p es) ≡ true) × (are_free (trace_from (run p es) (Act lane a ∷ [])) ≡ true)
  answers = answers_off p es (Act lane a ∷ []) h.answers

  partial : IsPartial p script fewer es
  partial = record {
    opening = sym (take-append-le 1 es (Act lane a ∷ []) some) ∙ h.opening;
    rest = of_lanes.0;
    lanes = did_from es fewer script.lanes (length-set counts lane (done_by lane es) ∙ long) each_did;
    answers = answers.0;
    ticks = paced;
    steps = held_over_off p script.steps es (Act lane a) [] refl h.steps;
  }

  free : would_be_held p es lane did.timed.action ≡ false
  free = ap (would_be_held p es lane) did.is ∙ free_last p es lane a answers.1

  next : next_of script es lane ≡ Some did.timed
  next = slice_get_read (lane_of script lane) (length (lane_of script lane)) (done_by lane es) did.timed refl did.within (sym did.next)

  due : due_action p script es lane ≡ Some a
  due =
      let now : is_due p es lane did.timed ≡ true = and_from (nat_le did.timed.at (ticks_of es)) (not (would_be_held p es lane did.timed.action)) (le-leb did.timed.at (ticks_of es) did.come) (not_from_false (would_be_held p es lane did.timed.action) free) in
      ap (if_due p es lane) next ∙ (ap (λ b. cond b (Some did.timed.action) None) now ∙ ap Some did.is)

  pub acted : Last p script (IsPartial p script) counts more
  acted = subst (λ (ns : List ℕ). Last p script (IsPartial p script) ns more) counts_same (Acted fewer es lane a partial due)

-- ---- a processor step with its tick

module _ (p : Project) (script : Script) (counts : List ℕ) (es ds : List Event) (some : 1 ≤ length es) (paced : is_paced script.pace es ≡ true) (made : (lane n : ℕ) → made_by lane n (Cpu ∷ ds) ≡ []) (one : steps_of (Cpu ∷ ds) ≡ 1) (h : IsPartial p script counts (es ++ Cpu ∷ ds)) where
  abbrev after : List Event
  after = es ++ Cpu ∷ ds

  steps_more : steps_of after ≡ steps_of es + 1
  steps_more = steps_on es (Cpu ∷ ds) ∙ ap (λ n. steps_of es + n) one

  lanes_same : (i : ℕ) → i < length script.lanes → LaneDid es i (get_or counts i 0) (lane_of script i)
  lanes_same i lt = did_same after es i (get_or counts i 0) (lane_of script i) (sym (made_same i es (Cpu ∷ ds) (made i (ticks_of es)))) (did_at after counts script.lanes h.lanes i lt)

  free_es : are_free (trace p es) ≡ true
  free_es = (answers_off p es (Cpu ∷ ds) h.answers).0

  pub partial_es : IsPartial p script counts es
  partial_es = record {
    opening = sym (take-append-le 1 es (Cpu ∷ ds) some) ∙ h.opening;
    rest = (lanes_off (length script.lanes) es (Cpu ∷ ds) some h.rest).0;
    lanes = did_from es counts script.lanes (did_long after counts script.lanes h.lanes) lanes_same;
    answers = free_es;
    ticks = paced;
    steps = held_over_off p script.steps es Cpu ds refl h.steps;
  }

  -- a step beyond the script's found a CPS open
  held_now : script.steps ≤ steps_of es → is_held_after p es ≡ true
  held_now ge =
      let many = steps_more in
      let same : through_step (steps_of es) after ≡ through_step (steps_of es) es = through_on (steps_of es) es Cpu ds refl (let e : steps_of es ≤ steps_of es = omega arith in e) in
      still_open p script.pace (length es) es (let e : length es ≤ length es = omega arith in e) paced free_es
      (sym (ap (is_held_after p) same) ∙ each_in (λ k. is_held_after p (through_step k after)) script.steps (steps_of after - script.steps) h.steps (steps_of es) ge (omega arith))

  pub unspent : is_spent p script es ≡ false
  unspent =
      elim (cases_lt (steps_of es) script.steps) [
        | inl first ↦ and_left (nat_le script.steps (steps_of es)) (not (is_held_after p es)) (lt-leb script.steps (steps_of es) first)
        | inr beyond ↦ and_right (nat_le script.steps (steps_of es)) (not (is_held_after p es)) (not_from_true (is_held_after p es) (held_now beyond))
      ]

  pub stepped : paced_step script.pace (steps_of es + 1) ≡ Cpu ∷ ds → Last p script (IsPartial p script) counts after
  stepped e = subst (λ (xs : List Event). Last p script (IsPartial p script) counts (es ++ xs)) e (Stepped counts es partial_es unspent)

-- ---- the opening

zero_counts : (p : Project) (script : Script) (counts : List ℕ) → IsTrue (is_script script) → IsPartial p script counts opening → counts ≡ replicate (length script.lanes) 0
zero_counts p script counts proper h =
    let few = (proper_of script proper).lanes in
    let long = did_long opening counts script.lanes h.lanes in
    ext_get_or 0 counts (replicate (length script.lanes) 0) (long ∙ sym (length-replicate (length script.lanes) 0))
    (λ i lt.
    let within : i < length script.lanes = omega arith in
    let none : made_by i 0 opening ≡ [] = ap (λ b. made_if b ModeRun 0 []) (ne_eqb OWN_LANE i (λ e. absurd (omega arith))) in
    sym (did_count opening i (get_or counts i 0) (lane_of script i) (did_at opening counts script.lanes h.lanes i within))
    ∙ (ap (λ (ms : List _). length ms) none ∙ sym (get_or-replicate (length script.lanes) i 0 0 within)))

opened : (p : Project) (script : Script) (counts : List ℕ) (es : List Event) → IsTrue (is_script script) → es ≡ opening → IsPartial p script counts es → Last p script (IsPartial p script) counts es
opened p script counts es proper e h =
    let first : IsPartial p script counts opening = subst (λ (xs : List Event). IsPartial p script counts xs) e h in
    subst (λ (xs : List Event). Last p script (IsPartial p script) counts xs) (sym e)
    (subst (λ (ns : List ℕ). Last p script (IsPartial p script) ns opening) (sym (zero_counts p script counts proper first)) Opened)

-- ---- by the end

by_end : (p : Project) (script : Script) (counts : List ℕ) (es : List Event) → IsTrue (is_script script) → PacedEnd script.pace es → IsPartial p script counts es → Last p script (IsPartial p script) counts es
by_end p script counts es proper AtStart h = absurd (cc h.opening)
by_end p script counts es proper (AfterAct [] lane a k) h = opened p script counts es proper h.opening h
by_end p script counts es proper (AfterAct (d ∷ ds) lane a k) h = acted p script counts (d ∷ ds) lane a (omega arith) k h
by_end p script counts es proper (AfterStep [] k none) h = absurd (cc h.opening)
by_end p script counts es proper (AfterStep (d ∷ ds) k none) h =
    stepped p script counts (d ∷ ds) [] (omega arith) k (λ lane n. refl) refl h (ap (λ b. cond b (Cpu ∷ Tick ∷ []) (Cpu ∷ [])) none)
by_end p script counts es proper (AfterTick [] k due) h = absurd (cc h.opening)
by_end p script counts es proper (AfterTick (d ∷ ds) k due) h =
    stepped p script counts (d ∷ ds) (Tick ∷ []) (omega arith) k (λ lane n. refl) refl h (ap (λ b. cond b (Cpu ∷ Tick ∷ []) (Cpu ∷ [])) due)

pub partial_journals_grow : PartialJournalsGrow
partial_journals_grow p script counts es valid proper h = by_end p script counts es proper (paced_end script.pace es h.ticks) h
