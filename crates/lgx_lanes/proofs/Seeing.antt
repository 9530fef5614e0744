-- What a lane's turn tells a pass whose count is the recorder's.
use Rattle.std.proofs.Common.{◌≡◌, ℕ, ◌+◌, ◌<◌, ◌≤◌, inl, inr, List, [], ◌∷◌, ◌++◌, length, get_or, Option, Some, None, refl, sym, ◌∙◌, ap, subst, arith}
use Rattle.std.specs.Prelude.{sum, IsSomeAnd}
use Rattle.std.proofs.lemmas.Bool.{cases_lt}
use Rattle.std.proofs.lemmas.List.{append-nil, get_or_past, get_or-set_same}
use Rattle.std.proofs.lemmas.List.Sums.{get_or-le-sum_by}
use mathlib.Core.List.{IsPrefix}
use Rattle.spec_machine.specs.declared.event.Action.{Action}
use Rattle.spec_machine.specs.declared.event.Event.{Event}
use Rattle.spec_machine.specs.declared.event.Event.TheVariants.{Act}
use Rattle.spec_machine.specs.Events.{steps_of}
use Rattle.spec_machine.specs.Project.{Project}
use Rattle.spec_text.specs.Scripts.{Script}
use Rattle.spec_lanes.specs.Laws.{with_one_more}
use Rattle.spec_lanes.specs.Turns.{lane_of, done_by, due_action, paced_step, IsAcceptAt}
use Rattle.spec_lanes.proofs.Scripts.{lane_within, next_due}
use Rattle.lgx_lanes.specs.declared.turn.Turn.{Turn}
use Rattle.lgx_lanes.specs.declared.turn.Turn.TheVariants.{Did, Helped, Done, Memory}
use Rattle.lgx_lanes.specs.Turns.{MatchTurn}
use Rattle.lgx_lanes.specs.Progress.{Progress, IsUnderWay}
use Rattle.lgx_lanes.specs.Seen.{done_in, Appends, Tells}
use Rattle.lgx_lanes.specs.Serves.{Goes, Serves}
use Rattle.lgx_history.proofs.Beginnings.{prefix_trans}
use Rattle.lgx_lanes.proofs.InStep.{long, counted, all_counted, accept_at}

-- where no action was made, none is of any lane
pub none_of : (counts : List ℕ) (lane : ℕ) → sum counts ≡ 0 → get_or counts lane 0 ≡ 0
none_of counts lane none =
    elim (cases_lt lane (length counts)) [
      | inl lt ↦ (let le = get_or-le-sum_by (λ (k : ℕ). k) counts lane 0 lt in omega (arith, le, none))
      | inr ge ↦ get_or_past counts lane 0 ge
    ]

of_due : (found events : List Event) (lane : ℕ) (o : Option Action) → IsSomeAnd o (λ a. events ≡ found ++ Act lane a ∷ []) → IsPrefix found events
of_due found events lane None m = absurd m
of_due found events lane (Some a) m = (Act lane a ∷ [], sym m)

appended : (project : Project) (script : Script) (lane : ℕ) (found : List Event) (turn : Turn) (events : List Event) → Appends project script lane found turn events → IsPrefix found events
appended project script lane found Did events a = of_due found events lane (due_action project script found lane) a
appended project script lane found Helped events a = (paced_step script.pace (steps_of found + 1), sym a.1)
appended project script lane found Done events a = ([], append-nil found ∙ sym a.1)
appended project script lane found Memory events a = ([], append-nil found ∙ sym a.1)

-- what a turn changes of a lane's actions in the journal
module _ (project : Project) (script : Script) (lane : ℕ) (v w : Progress) (f : IsUnderWay project script v) (g : IsUnderWay project script w) where
  same_counts : w.counts ≡ v.counts → done_in script lane w.events ≡ done_in script lane v.events
  same_counts is = counted project script w g lane ∙ (ap (λ (ns : List ℕ). get_or ns lane 0) is ∙ sym (counted project script v f lane))

  one_more : (a : Action) → due_action project script v.events lane ≡ Some a → get_or (with_one_more v.counts lane) lane 0 ≡ get_or v.counts lane 0 + 1
  one_more a due =
      let n = next_due project script v.events lane a due in
      let within = lane_within script lane (done_by lane v.events) n.timed n.next in
      get_or-set_same v.counts lane (get_or v.counts lane 0 + 1) 0 (omega (arith, within, long project script v f))

  of_action : (o : Option Action) → due_action project script v.events lane ≡ o → IsSomeAnd o (λ a. Goes v w (Act lane a ∷ []) (with_one_more v.counts lane)) → done_in script lane w.events ≡ done_in script lane v.events + 1
  of_action None due m = absurd m
  of_action (Some a) due m =
      counted project script w g lane
      ∙ (ap (λ (ns : List ℕ). get_or ns lane 0) m.counts_are ∙ (one_more a due ∙ ap (λ k. k + 1) (sym (counted project script v f lane))))

  pub counts_then : (turn : Turn) → Serves project script lane v turn w →
      let before = done_in script lane v.events in
      let after = done_in script lane w.events in
      MatchTurn turn
      (after ≡ before + 1)
      (after ≡ before)
      ((after ≡ before) × (before ≡ length (lane_of script lane)))
      ((after ≡ before) × IsAcceptAt script lane before)
  counts_then Did s = of_action (due_action project script v.events lane) refl s
  counts_then Helped s = same_counts s.2.counts_are
  counts_then Done s = (ap (λ (x : Progress). done_in script lane x.events) s.2, all_counted project script v f lane s.0 s.1)
  counts_then Memory s = (ap (λ (x : Progress). done_in script lane x.events) s.1, accept_at project script v f lane s.0)

-- what the turn appended
module _ (project : Project) (script : Script) (lane : ℕ) (v w : Progress) where
  by_action : (o : Option Action) → IsSomeAnd o (λ a. Goes v w (Act lane a ∷ []) (with_one_more v.counts lane)) → IsSomeAnd o (λ a. w.events ≡ v.events ++ Act lane a ∷ [])
  by_action None m = absurd m
  by_action (Some a) m = m.events_are

  appends : (turn : Turn) → Serves project script lane v turn w → Appends project script lane v.events turn w.events
  appends Did s = by_action (due_action project script v.events lane) s
  appends Helped s = (s.0, s.2.events_are)
  appends Done s = (s.0, ap (λ (x : Progress). x.events) s.2)
  appends Memory s = (s.0, ap (λ (x : Progress). x.events) s.1)

  pub tells : (turn : Turn) (seen : List Event) → Serves project script lane v turn w → IsPrefix seen v.events → Tells project script lane seen turn w.events
  tells turn seen s pre = record { found = v.events; goes_on = pre; appends = appends turn s }

  -- and the journal goes on from what it was
  pub onward : (turn : Turn) → Serves project script lane v turn w → IsPrefix v.events w.events
  onward turn s = appended project script lane v.events turn w.events (appends turn s)

-- ---- what is seen turn after turn

pub sees_self : (events : List Event) → IsPrefix events events
sees_self events = ([], append-nil events)

-- after a turn what is seen goes on from what was seen at any time before
pub sees_on : (project : Project) (script : Script) (lane : ℕ) (first seen : List Event) (turn : Turn) (events : List Event) → IsPrefix first seen → Tells project script lane seen turn events → IsPrefix first events
sees_on project script lane first seen turn events pre t =
    prefix_trans first seen events pre (prefix_trans seen t.found events t.goes_on (appended project script lane t.found turn events t.appends))

-- ---- what the gate was asked for

-- for each number so far, and now for the next one: so for each up to that
pub asked_on : (Asked : ℕ → Type 0) (first next last : ℕ) → ((n : ℕ) → first ≤ n → n < next → Asked n) → Asked next → last ≤ next + 1 → (n : ℕ) → first ≤ n → n < last → Asked n
asked_on Asked first next last before here few n from below =
    elim (cases_lt n next) [
      | inl l ↦ before n from l
      | inr ge ↦ (let same : next ≡ n = omega (arith, ge, below, few) in subst Asked same here)
    ]
