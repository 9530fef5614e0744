-- Lateness told by counts and ticks.
use Rattle.std.proofs.Common.{◌≡◌, ℕ, ◌+◌, ◌<◌, Bool, true, false, List, [], ◌∷◌, ◌++◌, length, get_or, Option, Some, None, refl, sym, ◌∙◌, ap, subst, arith}
use Rattle.std.specs.Prelude.{slice_get}
use Rattle.std.proofs.lemmas.Bool.{false≢true}
use Rattle.std.proofs.lemmas.List.{append-nil, append_assoc}
use Rattle.spec_machine.specs.declared.event.Action.{Action}
use Rattle.spec_machine.specs.declared.event.Event.{Event}
use Rattle.spec_machine.specs.declared.event.Event.TheVariants.{Cpu, Tick, Act}
use Rattle.spec_machine.specs.Events.{steps_of}
use Rattle.spec_machine.specs.Project.{Project}
use Rattle.spec_text.specs.Scripts.{Script}
use Rattle.spec_schedule.specs.Partial.{IsPartial}
use Rattle.spec_lanes.specs.Turns.{lane_of, done_by, ticks_of, due_action, is_spent, paced_step}
use Rattle.spec_lanes.specs.Served.{IsServed}
use Rattle.spec_lanes.specs.Laws.{with_one_more}
use Rattle.spec_lanes.proofs.Acting.{due_actions_serve}
use Rattle.spec_lanes.proofs.Appended.{ticks_on}
use Rattle.spec_lanes.proofs.LaneLists.{did_at, did_count}
use Rattle.spec_lanes.proofs.Stepping.{steps_serve}
use Rattle.spec_explore.specs.Questions.{is_late_at, is_late, InWindow}
use Rattle.spec_explore.proofs.Witnesses.{windows_grow, steps_are_in_time}
use Rattle.lgx_walker.specs.Late.{is_late_by, SomeIsLate, NoneIsLate}
use Rattle.lgx_walker.specs.Lines.{step_events}
use Rattle.lgx_walker.proofs.Counted.{next_told}

-- the counts are those of the lanes' actions in the journal
abbrev pub CountsAre : Script → List ℕ → List Event → Type 0
CountsAre script counts journal = (lane : ℕ) → lane < length script.lanes → get_or counts lane 0 ≡ done_by lane journal

pub counts_are : (p : Project) (script : Script) (counts : List ℕ) (journal : List Event) → IsPartial p script counts journal → CountsAre script counts journal
counts_are p script counts journal h lane lt = sym (did_count journal lane (get_or counts lane 0) (lane_of script lane) (did_at journal counts script.lanes h.lanes lane lt))

late_is : (within : Option ℕ) (script : Script) (counts : List ℕ) (journal : List Event) (tick lane : ℕ) → CountsAre script counts journal → tick ≡ ticks_of journal → is_late_by within script counts tick lane ≡ is_late within script journal lane
late_is None script counts journal tick lane are now = refl
late_is (Some most) script counts journal tick lane are now =
    ap (λ n. is_late_at most n (slice_get (lane_of script lane) (get_or counts lane 0))) now
    ∙ ap (is_late_at most (ticks_of journal)) (next_told script journal lane (get_or counts lane 0) (are lane))

-- the same counts and tick
pub late_then : (within : Option ℕ) (script : Script) (xs counts : List ℕ) (tick now : ℕ) → xs ≡ counts → tick ≡ now → SomeIsLate within script xs tick → SomeIsLate within script counts now
late_then within script xs counts tick now same at h = subst (λ (cs : List ℕ). SomeIsLate within script cs now) same (subst (SomeIsLate within script xs) at h)

pub none_late_then : (within : Option ℕ) (script : Script) (xs counts : List ℕ) (tick now : ℕ) → xs ≡ counts → tick ≡ now → NoneIsLate within script xs tick → NoneIsLate within script counts now
none_late_then within script xs counts tick now same at h = subst (λ (cs : List ℕ). NoneIsLate within script cs now) same (subst (NoneIsLate within script xs) at h)

-- a late action leaves the window
pub leaves_window : (within : Option ℕ) (script : Script) (counts : List ℕ) (journal : List Event) (tick : ℕ) → CountsAre script counts journal → tick ≡ ticks_of journal → SomeIsLate within script counts tick → InWindow within script journal → ⊥
leaves_window within script counts journal tick are now late window =
    false≢true (sym (window journal [] late.0 (sym (append-nil journal))) ∙ (sym (late_is within script counts journal tick late.0 are now) ∙ late.1))

-- one event more stays in it, if none is late then
stays_in_window : (within : Option ℕ) (script : Script) (counts : List ℕ) (journal : List Event) (e : Event) (tick : ℕ) → InWindow within script journal → CountsAre script counts (journal ++ e ∷ []) → tick ≡ ticks_of (journal ++ e ∷ []) → NoneIsLate within script counts tick → InWindow within script (journal ++ e ∷ [])
stays_in_window within script counts journal e tick window are now none =
    windows_grow script within journal e window (λ lane. sym (late_is within script counts (journal ++ e ∷ []) tick lane are now) ∙ none lane)

-- ---- an action

module _ (p : Project) (script : Script) (counts : List ℕ) (journal : List Event) (served : IsServed p script counts journal) (within : Option ℕ) where
  module _ (lane : ℕ) (action : Action) (due : due_action p script journal lane ≡ Some action) where
    acted_counts : CountsAre script (with_one_more counts lane) (journal ++ Act lane action ∷ [])
    acted_counts = counts_are p script (with_one_more counts lane) (journal ++ Act lane action ∷ []) (due_actions_serve p script counts journal lane action served due).served.partial

    acted_ticks : ticks_of journal ≡ ticks_of (journal ++ Act lane action ∷ [])
    acted_ticks = sym (ticks_on journal (Act lane action ∷ []) ∙ (let e : ticks_of journal + 0 ≡ ticks_of journal = omega arith in e))

    pub action_leaves : SomeIsLate within script (with_one_more counts lane) (ticks_of journal) → InWindow within script (journal ++ Act lane action ∷ []) → ⊥
    action_leaves late = leaves_window within script (with_one_more counts lane) (journal ++ Act lane action ∷ []) (ticks_of journal) acted_counts acted_ticks late

    pub action_stays : InWindow within script journal → NoneIsLate within script (with_one_more counts lane) (ticks_of journal) → InWindow within script (journal ++ Act lane action ∷ [])
    action_stays window none = stays_in_window within script (with_one_more counts lane) journal (Act lane action) (ticks_of journal) window acted_counts acted_ticks none

  -- ---- a step

  module _ (unspent : is_spent p script journal ≡ false) where
    -- the step's tick comes
    abbrev HasTick : Type 0
    HasTick = paced_step script.pace (steps_of journal + 1) ≡ Cpu ∷ Tick ∷ []

    ticked_counts : HasTick → CountsAre script counts (journal ++ Cpu ∷ Tick ∷ [])
    ticked_counts two =
        counts_are p script counts (journal ++ Cpu ∷ Tick ∷ []) (subst (λ (xs : List Event). IsPartial p script counts (journal ++ xs)) two (steps_serve p script counts journal served unspent).partial)

    ticked : ticks_of journal + 1 ≡ ticks_of (journal ++ Cpu ∷ Tick ∷ [])
    ticked = sym (ticks_on journal (Cpu ∷ Tick ∷ []))

    pub tick_leaves : HasTick → SomeIsLate within script counts (ticks_of journal + 1) → InWindow within script (journal ++ paced_step script.pace (steps_of journal + 1)) → ⊥
    tick_leaves two late window =
        leaves_window within script counts (journal ++ Cpu ∷ Tick ∷ []) (ticks_of journal + 1) (ticked_counts two) ticked late
        (subst (λ (xs : List Event). InWindow within script (journal ++ xs)) two window)

    cpu_stays : InWindow within script journal → InWindow within script (journal ++ Cpu ∷ [])
    cpu_stays window = windows_grow script within journal Cpu window (λ lane. steps_are_in_time script within journal lane ∙ window journal [] lane (sym (append-nil journal)))

    pub step_stays : (has_tick : Bool) → paced_step script.pace (steps_of journal + 1) ≡ step_events has_tick → InWindow within script journal → (has_tick ≡ true → NoneIsLate within script counts (ticks_of journal + 1)) → InWindow within script (journal ++ step_events has_tick)
    step_stays false is window none = cpu_stays window
    step_stays true is window none =
        let whole = append_assoc journal (Cpu ∷ []) (Tick ∷ []) in
        subst (λ (xs : List Event). InWindow within script xs) whole
        (stays_in_window within script counts (journal ++ Cpu ∷ []) Tick (ticks_of journal + 1) (cpu_stays window)
        (subst (λ (xs : List Event). CountsAre script counts xs) (sym whole) (ticked_counts is))
        (ticked ∙ ap ticks_of (sym whole)) (none refl))
