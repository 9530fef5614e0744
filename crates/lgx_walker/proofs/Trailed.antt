-- The journal of a trail, with one more action or step.
use Rattle.std.proofs.Common.{◌≡◌, ℕ, zero, suc, ◌+◌, ◌^◌, ◌<◌, ◌≤◌, inl, inr, List, [], ◌∷◌, ◌++◌, length, take, drop, get_or, Option, None, Some, refl, sym, ◌∙◌, ap, arith, length-append}
use Rattle.std.specs.Prelude.{slice_get}
use Rattle.std.proofs.lemmas.Bool.{cases_lt}
use Rattle.std.proofs.lemmas.List.{append-nil, append_assoc, take_more, take-append-drop}
use Rattle.std.proofs.lemmas.List.Sums.{count_by-le-length}
use Rattle.spec_base.specs.declared.limits.TheConstants.{MAX_EVENTS}
use Rattle.spec_machine.specs.declared.event.Event.{Event}
use Rattle.spec_machine.specs.Events.{is_step, steps_of}
use Rattle.spec_text.specs.declared.script.Timed.{Timed}
use Rattle.spec_text.specs.Scripts.{Script}
use Rattle.spec_lanes.specs.Turns.{lane_of, paced_step}
use Rattle.spec_lanes.specs.Laws.{opening}
use Rattle.spec_lanes.proofs.Appended.{steps_on}
use Rattle.spec_explore.proofs.Layers.{paced_one}
use Rattle.lgx_walker.specs.declared.trail.Placed.{Placed}
use Rattle.lgx_walker.specs.Trails.{steps_from, with_steps, act_of, with_placed, placed_from, journal_of}

-- ---- steps

steps_made : (pace done n : ℕ) → steps_of (steps_from pace done n) ≡ n
steps_made pace done zero = refl
steps_made pace done (suc n) =
    let a = steps_on (steps_from pace done n) (paced_step pace (done + n + 1)) in
    let b = steps_made pace done n in
    let c = paced_one pace (done + n + 1) in
    omega arith

pub steps_with : (script : Script) (journal : List Event) (n : ℕ) → steps_of (with_steps script journal n) ≡ steps_of journal + n
steps_with script journal n =
    steps_on journal (steps_from script.pace (steps_of journal) n) ∙ ap (λ k. steps_of journal + k) (steps_made script.pace (steps_of journal) n)

pub no_steps : (script : Script) (journal : List Event) → with_steps script journal 0 ≡ journal
no_steps script journal = append-nil journal

-- one step more is the next by its number
pub one_step_more : (script : Script) (journal : List Event) (n : ℕ) → with_steps script journal (n + 1) ≡ with_steps script journal n ++ paced_step script.pace (steps_of (with_steps script journal n) + 1)
one_step_more script journal n =
    let more : n + 1 ≡ suc n = omega arith in
    let made = paced_step script.pace (steps_of journal + n + 1) in
    ap (with_steps script journal) more
    ∙ (sym (append_assoc journal (steps_from script.pace (steps_of journal) n) made)
    ∙ ap (λ k. with_steps script journal n ++ paced_step script.pace (k + 1)) (sym (steps_with script journal n)))

-- ---- actions

placed_push : (script : Script) (journal : List Event) (ms : List Placed) (m : Placed) → placed_from script journal (ms ++ m ∷ []) ≡ with_placed script (placed_from script journal ms) m
placed_push script journal [] m = refl
placed_push script journal (x ∷ ms) m = placed_push script (with_placed script journal x) ms m

placed_on : (script : Script) (journal : List Event) (ms ns : List Placed) → placed_from script journal (ms ++ ns) ≡ placed_from script (placed_from script journal ms) ns
placed_on script journal [] ns = refl
placed_on script journal (x ∷ ms) ns = placed_on script (with_placed script journal x) ms ns

-- the journal with one more action, after the steps before it
pub one_action_more : (script : Script) (ms : List Placed) (m : Placed) → journal_of script (ms ++ m ∷ []) 0 ≡ journal_of script ms m.since ++ act_of m.lane (slice_get (lane_of script m.lane) m.index)
one_action_more script ms m = no_steps script (placed_from script opening (ms ++ m ∷ [])) ∙ placed_push script opening ms m

-- the actions up to one more of a list
pub next_placed_on : (script : Script) (journal : List Event) (ms : List Placed) (i : ℕ) (m : Placed) → i < length ms → get_or ms i m ≡ m → placed_from script journal (take (i + 1) ms) ≡ with_placed script (placed_from script journal (take i ms)) m
next_placed_on script journal ms i m lt here =
    ap (placed_from script journal) (take_more ms i m lt ∙ ap (λ (x : Placed). take i ms ++ x ∷ []) here) ∙ placed_push script journal (take i ms) m

-- ---- lengths

len_from : (pace done k n : ℕ) → k ≤ n → length (steps_from pace done k) ≤ length (steps_from pace done n)
len_from pace done k zero le = ap_len (let e : k ≡ 0 = omega arith in e)
  where
    ap_len : k ≡ 0 → length (steps_from pace done k) ≤ length (steps_from pace done 0)
    ap_len e = let same = ap (λ n. length (steps_from pace done n)) e in omega arith
len_from pace done k (suc n) le =
    elim (cases_lt k (suc n)) [
      | inl before ↦
          (let a = len_from pace done k n (omega arith) in
          let b = length-append (steps_from pace done n) (paced_step pace (done + n + 1)) in
          omega arith)
      | inr last ↦
          (let e : k ≡ suc n = omega arith in
          let same = ap (λ n. length (steps_from pace done n)) e in
          omega arith)
    ]

-- fewer steps make no longer journal
pub shorter_steps : (script : Script) (journal : List Event) (k n : ℕ) → k ≤ n → length (with_steps script journal k) ≤ length (with_steps script journal n)
shorter_steps script journal k n le =
    let a = length-append journal (steps_from script.pace (steps_of journal) k) in
    let b = length-append journal (steps_from script.pace (steps_of journal) n) in
    let c = len_from script.pace (steps_of journal) k n le in
    omega arith

-- there is room for one more of the steps
pub room_for_step : (script : Script) (journal : List Event) (k n : ℕ) → k < n → length (with_steps script journal n) + 2 ≤ MAX_EVENTS → length (with_steps script journal k) + 1 < MAX_EVENTS
room_for_step script journal k n lt few =
    let a = shorter_steps script journal k n (omega arith) in
    omega arith

-- and its number is one of 32 bits
pub number_of_step : (script : Script) (journal : List Event) (k n : ℕ) → k < n → length (with_steps script journal n) + 2 ≤ MAX_EVENTS → steps_of journal + k + 1 < 2 ^ 32
number_of_step script journal k n lt few =
    let a = steps_with script journal n in
    let b = count_by-le-length is_step (with_steps script journal n) in
    omega arith

pub shorter_before : (script : Script) (journal : List Event) (m : Placed) → length (with_steps script journal m.since) ≤ length (with_placed script journal m)
shorter_before script journal m =
    let a = length-append (with_steps script journal m.since) (act_of m.lane (slice_get (lane_of script m.lane) m.index)) in omega arith

pub shorter_at_first : (script : Script) (journal : List Event) (n : ℕ) → length journal ≤ length (with_steps script journal n)
shorter_at_first script journal n = let a = length-append journal (steps_from script.pace (steps_of journal) n) in omega arith

shorter_placed : (script : Script) (journal : List Event) (ms : List Placed) → length journal ≤ length (placed_from script journal ms)
shorter_placed script journal [] = let e : length journal ≤ length journal = omega arith in e
shorter_placed script journal (m ∷ ms) =
    let a = shorter_at_first script journal m.since in
    let b = shorter_before script journal m in
    let c = shorter_placed script (with_placed script journal m) ms in
    omega arith

-- the first actions make no longer journal
pub shorter_take : (script : Script) (ms : List Placed) (k since : ℕ) → length (placed_from script opening (take k ms)) ≤ length (journal_of script ms since)
shorter_take script ms k since =
    let whole = ap (λ (xs : List Placed). length (placed_from script opening xs)) (take-append-drop k ms) in
    let parts = ap (λ (xs : List Event). length xs) (placed_on script opening (take k ms) (drop k ms)) in
    let a = shorter_placed script (placed_from script opening (take k ms)) (drop k ms) in
    let b = shorter_at_first script (placed_from script opening ms) since in
    omega arith

-- ---- the next of the actions

module _ (script : Script) (ms : List Placed) (i : ℕ) (m : Placed) (events : List Event) (lt : i < length ms) (here : get_or ms i m ≡ m) (so_far : events ≡ placed_from script opening (take i ms)) where
  pub next_placed : with_placed script events m ≡ placed_from script opening (take (i + 1) ms)
  next_placed = ap (λ (es : List Event). with_placed script es m) so_far ∙ sym (next_placed_on script opening ms i m lt here)

  module _ (since : ℕ) (few : length (journal_of script ms since) + 2 ≤ MAX_EVENTS) where
    pub few_placed : length (with_placed script events m) + 2 ≤ MAX_EVENTS
    few_placed =
        let a = shorter_take script ms (i + 1) since in
        let b = ap (λ (es : List Event). length es) next_placed in
        omega arith

    pub number_placed : steps_of events + m.since < 2 ^ 32
    number_placed =
        let a = steps_with script events m.since in
        let b = count_by-le-length is_step (with_steps script events m.since) in
        let c = shorter_before script events m in
        let d = few_placed in
        omega arith

-- an action is no step
act_steps : (lane : ℕ) (o : Option Timed) → steps_of (act_of lane o) ≡ 0
act_steps lane None = refl
act_steps lane (Some t) = refl

pub steps_placed : (script : Script) (events : List Event) (m : Placed) → steps_of (with_placed script events m) ≡ steps_of events + m.since
steps_placed script events m =
    let a = steps_on (with_steps script events m.since) (act_of m.lane (slice_get (lane_of script m.lane) m.index)) in
    let b = act_steps m.lane (slice_get (lane_of script m.lane) m.index) in
    let c = steps_with script events m.since in
    omega arith
