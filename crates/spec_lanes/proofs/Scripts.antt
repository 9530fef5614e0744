-- What a script keeps, and what is served of it.
use Rattle.std.proofs.Common.{◌≡◌, ℕ, zero, suc, ◌<◌, ◌≤◌, inl, inr, Bool, true, false, cond, not, List, [], ◌∷◌, length, get_or, Option, Some, None, refl, subst, arith}
use Rattle.std.specs.Prelude.{nat_eq, nat_le, nat_lt, slice_get, IsTrue}
use Rattle.std.specs.List.{list_all}
use Rattle.std.proofs.lemmas.Bool.{and_parts, or_parts, cases_lt, eqb-false, leb-true, ltb-false, not-true}
use Rattle.std.proofs.lemmas.List.{get_or_past}
use Rattle.std.proofs.lemmas.Option.{same_Some}
use Rattle.spec_base.specs.declared.limits.TheConstants.{MAX_ACTIONS, MAX_SCRIPT_STEPS, OWN_LANE}
use Rattle.spec_machine.specs.declared.event.Action.{Action}
use Rattle.spec_machine.specs.declared.event.Event.{Event}
use Rattle.spec_machine.specs.Project.{Project}
use Rattle.spec_text.specs.declared.script.Timed.{Timed}
use Rattle.spec_text.specs.Scripts.{Script, is_out, actions_in, last_tick, is_script}
use Rattle.spec_schedule.specs.Partial.{LaneDid}
use Rattle.spec_lanes.specs.Turns.{lane_of, done_by, next_of, ticks_of, would_be_held, is_due, if_due, due_action}
use Rattle.spec_lanes.specs.Served.{IsServed}
use Rattle.spec_lanes.proofs.LaneLists.{did_at, did_count}

-- ---- a script's tests

pub record Proper (s : Script) : Type 0 where
  pub steps : s.steps ≤ MAX_SCRIPT_STEPS
  pub pace : 0 < s.pace
  pub lanes : length s.lanes ≤ OWN_LANE
  pub actions : actions_in s ≤ MAX_ACTIONS
  pub ats : list_all (λ lane. list_all (λ t. nat_le t.at (last_tick s)) lane) s.lanes ≡ true

in_range : (n : ℕ) → not (is_out n) ≡ true → (0 < n) × (n ≤ MAX_SCRIPT_STEPS)
in_range n h =
    let parts = or_parts (nat_eq n 0) (nat_lt MAX_SCRIPT_STEPS n) (not-true (is_out n) h) in
    let some : n ≡ 0 → ⊥ = eqb-false n 0 parts.0 in
    let few = ltb-false MAX_SCRIPT_STEPS n parts.1 in
    (omega arith, few)

pub proper_of : (s : Script) → IsTrue (is_script s) → Proper s
proper_of s h =
    let first = and_parts _ _ h in
    let second = and_parts _ _ first.0 in
    let third = and_parts _ _ second.0 in
    let fourth = and_parts _ _ third.0 in
    let steps = in_range s.steps fourth.0 in
    let pace = in_range s.pace fourth.1 in
    record {
      steps = steps.1;
      pace = pace.0;
      lanes = leb-true (length s.lanes) OWN_LANE third.1;
      actions = leb-true (actions_in s) MAX_ACTIONS second.1;
      ats = first.1;
    }

all_get : {A : Type 0} (test : A → Bool) (xs : List A) (i : ℕ) (x : A) → list_all test xs ≡ true → slice_get xs i ≡ Some x → test x ≡ true
all_get test [] i x h e = absurd (cc e)
all_get test (y ∷ ys) zero x h e = subst (λ z. test z ≡ true) (same_Some y x e) (and_parts (test y) (list_all test ys) h).0
all_get test (y ∷ ys) (suc i) x h e = all_get test ys i x (and_parts (test y) (list_all test ys) h).1 e

all_at : {A : Type 0} (test : A → Bool) (xs : List A) (i : ℕ) (d : A) → list_all test xs ≡ true → i < length xs → test (get_or xs i d) ≡ true
all_at test [] i d h l = absurd (omega arith)
all_at test (y ∷ ys) zero d h l = (and_parts (test y) (list_all test ys) h).0
all_at test (y ∷ ys) (suc i) d h l = all_at test ys i d (and_parts (test y) (list_all test ys) h).1 (omega arith)

-- a lane with an action is one of the script's
pub lane_within : (script : Script) (lane k : ℕ) (t : Timed) → slice_get (lane_of script lane) k ≡ Some t → lane < length script.lanes
lane_within script lane k t e =
    elim (cases_lt lane (length script.lanes)) [
      | inl lt ↦ lt
      | inr ge ↦
          (let past : lane_of script lane ≡ [] = get_or_past script.lanes lane [] ge in
          let none : slice_get [] k ≡ Some t = subst (λ (ts : List Timed). slice_get ts k ≡ Some t) past e in
          absurd (cc none))
    ]

-- no action waits for a tick after the last
pub comes_by : (script : Script) (lane k : ℕ) (t : Timed) → IsTrue (is_script script) → slice_get (lane_of script lane) k ≡ Some t → t.at ≤ last_tick script
comes_by script lane k t h e =
    let lanes = (proper_of script h).ats in
    let lane_in = all_at (λ list. list_all (λ x. nat_le x.at (last_tick script)) list) script.lanes lane [] lanes (lane_within script lane k t e) in
    leb-true t.at (last_tick script) (all_get (λ x. nat_le x.at (last_tick script)) (lane_of script lane) k t lane_in e)

-- ---- the due action

-- the next action of the lane, whose tick has come, and which wouldn't be held
pub record IsNextDue (p : Project) (script : Script) (journal : List Event) (lane : ℕ) (a : Action) : Type 0 where
  pub timed : Timed
  pub next : next_of script journal lane ≡ Some timed
  pub come : timed.at ≤ ticks_of journal
  pub free : would_be_held p journal lane timed.action ≡ false
  pub is : timed.action ≡ a

pub next_due : (p : Project) (script : Script) (journal : List Event) (lane : ℕ) (a : Action) → due_action p script journal lane ≡ Some a → IsNextDue p script journal lane a
next_due p script journal lane a due = of_option (next_of script journal lane) refl due
  where
    of_test : (t : Timed) (b : Bool) → next_of script journal lane ≡ Some t → is_due p journal lane t ≡ b → cond b (Some t.action) None ≡ Some a → IsNextDue p script journal lane a
    of_test t false n e h = absurd (cc h)
    of_test t true n e h =
        let parts = and_parts (nat_le t.at (ticks_of journal)) (not (would_be_held p journal lane t.action)) e in
        record {
          timed = t;
          next = n;
          come = leb-true t.at (ticks_of journal) parts.0;
          free = not-true (would_be_held p journal lane t.action) parts.1;
          is = same_Some t.action a h;
        }

    of_option : (o : Option Timed) → next_of script journal lane ≡ o → if_due p journal lane o ≡ Some a → IsNextDue p script journal lane a
    of_option None n h = absurd (cc h)
    of_option (Some t) n h = of_test t (is_due p journal lane t) n refl h

-- ---- counts

module _ (p : Project) (script : Script) (counts : List ℕ) (journal : List Event) (h : IsServed p script counts journal) where
  pub lane_did : (lane : ℕ) → lane < length script.lanes → LaneDid journal lane (get_or counts lane 0) (lane_of script lane)
  lane_did lane lt = did_at journal counts script.lanes h.partial.lanes lane lt

  pub count_is : (lane : ℕ) → lane < length script.lanes → done_by lane journal ≡ get_or counts lane 0
  count_is lane lt = did_count journal lane (get_or counts lane 0) (lane_of script lane) (lane_did lane lt)
