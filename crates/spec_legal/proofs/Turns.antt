-- The first part of the turn law: between ticks a task that steps keeps the turn of its priority.
use Rattle.std.proofs.Common.{◌≡◌, ℕ, ◌<◌, ◌≤◌, Bool, true, false, cond, List, [], ◌∷◌, length, map, Option, Some, None, refl, sym, ◌∙◌, ap, subst, arith, eqb-true, eq-eqb}
use Rattle.std.specs.Prelude.{drop, nat_eq, not, replicate, take_while}
use Rattle.std.specs.List.{cons_option, list_any, list_all, prefix_len}
use Rattle.std.proofs.Math.Numerals.{one-add}
use Rattle.std.proofs.lemmas.Bool.{and_from, and_parts}
use Rattle.std.proofs.lemmas.List.Sums.{take_while-cons}
use Rattle.spec_machine.specs.declared.event.Event.{Event}
use Rattle.spec_machine.specs.declared.event.Event.TheVariants as events
use Rattle.spec_machine.specs.Project.{Project}
use Rattle.spec_machine.specs.State.{State, start}
use Rattle.spec_machine.specs.Machine.{step}
use Rattle.spec_machine.specs.ValidProject.{IsValidProject}
use Rattle.spec_schedule.specs.Counting.{Counted, uncounted, Numbers, unedited, stepping, edited_all, CountedEvent}
use Rattle.spec_schedule.specs.Legal.{priority_of, at, is_tick, before_tick, stays_up, of_priority, who_steps, keeps_on, turn_kept, keeps_turn}
use Rattle.spec_schedule.specs.TraceView.{audit_tasks, table_of, seen}
use Rattle.spec_legal.specs.LegalRuns.{RunsKeepTurns}
use Rattle.spec_legal.proofs.Along.{places_from, place, IsPlace, first_place, place_next, counts_next, each_along}
use Rattle.spec_legal.proofs.Priority.{step_of_chosen, within_tasks, same_priority}
use Rattle.spec_legal.proofs.Ranks.{downs, downs_next, IsLeading, chosen_is_leading, same_leading, leading_next}

-- ---- tests on lists

abbrev is_number : ℕ → ℕ → Bool
is_number t u = nat_eq u t

-- only t steps, so that it doesn't step after another
only_one : (t : ℕ) (us : List ℕ) → list_all (is_number t) us ≡ true → keeps_on t us ≡ true
only_one t us h = ap (λ (xs : List ℕ). not (list_any (is_number t) xs)) (all_dropped us h)
  where
    all_dropped : (us : List ℕ) → list_all (is_number t) us ≡ true → drop (prefix_len (is_number t) us) us ≡ []
    all_dropped [] h = refl
    all_dropped (u ∷ us) h = let q = and_parts (nat_eq u t) (list_all (is_number t) us) h in rw (q.0, one-add) (all_dropped us q.1)

pub not_tick : (p : Project) (s : State) (e : Event) → is_tick (seen p (step s e).answer) ≡ false → e ≡ events.Tick → ⊥
not_tick p s events.Cpu h is = let f : events.Cpu ≡ events.Tick → ⊥ = λ x. cc in f is
not_tick p s events.Tick h is = absurd (cc h)
not_tick p s (events.Act lane a) h is = let f : events.Act lane a ≡ events.Tick → ⊥ = λ x. cc in f is

-- what has a stepping task is no tick
pub steps_no_tick : (p : Project) (s : State) (e : Event) (t : ℕ) → stepping (seen p (step s e).answer) ≡ Some t → e ≡ events.Tick → ⊥
steps_no_tick p s events.Cpu t h is = let f : events.Cpu ≡ events.Tick → ⊥ = λ x. cc in f is
steps_no_tick p s events.Tick t h is = absurd (cc)
steps_no_tick p s (events.Act lane a) t h is = absurd (cc h)

-- ---- a task that keeps the turn

-- t has gone down at least so often, and if not more often it leads its priority
pub record Follows (s : State) (cs : List Counted) (t since : ℕ) : Type 0 where
  pub low : since ≤ downs cs t
  pub leads : downs cs t ≡ since → IsLeading s.table t

module _ (p : Project) (valid : IsValidProject p) (t : ℕ) (within : t < length p.tasks) where
  pub follows_next : (s : State) (e : Event) (cs : List Counted) (since : ℕ) → IsPlace p s cs → (e ≡ events.Tick → ⊥) → Follows s cs t since → Follows (step s e).state (counts_next p valid s e cs) t since
  follows_next s e cs since h no_tick f =
      let g = downs_next p valid s e cs h t within in
      let l = f.low in
      record {
        low = omega arith;
        leads = λ d. leading_next p valid s cs h e t (f.leads (omega arith)) no_tick (omega arith);
      }

  -- a step of t's priority is of t
  steps_itself : (s : State) (e : Event) (cs : List Counted) (u : ℕ) → IsPlace p s cs → IsLeading s.table t → stepping (seen p (step s e).answer) ≡ Some u → priority_of (table_of p) u ≡ priority_of (table_of p) t → u ≡ t
  steps_itself s e cs u h lead k same =
      let c = step_of_chosen p s e u k in
      let b = chosen_is_leading p valid s cs h u c in
      let a = same_priority p valid s cs h t within in
      let d = same_priority p valid s cs h u (within_tasks p valid s cs h u b.state b.up) in
      same_leading p valid s cs h t u lead b (omega arith)

  module _ (x : CountedEvent) where
    abbrev prio : ℕ
    prio = priority_of (table_of p) t

    -- the steps of t's priority here, up to the next tick and while t stays up
    abbrev who : List CountedEvent → List ℕ
    who ys = who_steps (table_of p) prio (take_while (stays_up t x) ys)

    abbrev OnlyT : List CountedEvent → Type 0
    OnlyT ys = list_all (is_number t) (who ys) ≡ true

    only_who : (s : State) (e : Event) (cs : List Counted) → IsPlace p s cs → IsLeading s.table t → (o : Option ℕ) → stepping (seen p (step s e).answer) ≡ o → (us : List ℕ) → list_all (is_number t) us ≡ true → list_all (is_number t) (cons_option (of_priority (table_of p) prio o) us) ≡ true
    only_who s e cs h lead None k us rest = rest
    only_who s e cs h lead (Some u) k us rest = go (nat_eq (priority_of (table_of p) u) prio) refl
      where
        go : (b : Bool) → nat_eq (priority_of (table_of p) u) prio ≡ b → list_all (is_number t) (cons_option (cond b (Some u) None) us) ≡ true
        go true same = and_from (nat_eq u t) (list_all (is_number t) us) (eq-eqb u t (steps_itself s e cs u h lead k (eqb-true (priority_of (table_of p) u) prio same))) rest
        go false same = rest

    module _ (s : State) (e : Event) (cs : List Counted) (ns : List Numbers) (h : IsPlace p s cs) (f : Follows s cs t (at x t).downs) (rest : List CountedEvent) (known : Follows (step s e).state (counts_next p valid s e cs) t (at x t).downs → OnlyT (before_tick rest)) where
      abbrev y : CountedEvent
      y = place p s cs ns e

      by_stays : (e ≡ events.Tick → ⊥) → (b : Bool) → stays_up t x y ≡ b → list_all (is_number t) (who_steps (table_of p) prio (cond b (y ∷ take_while (stays_up t x) (before_tick rest)) [])) ≡ true
      by_stays no_tick true up =
          only_who s e cs h (f.leads (sym (eqb-true (at x t).downs (at y t).downs up))) (stepping (seen p (step s e).answer)) refl (who (before_tick rest))
          (known (follows_next s e cs (at x t).downs h no_tick f))
      by_stays no_tick false up = refl

      cut : (b : Bool) → is_tick (seen p (step s e).answer) ≡ b → before_tick (y ∷ rest) ≡ cond (not b) (y ∷ before_tick rest) []
      cut b tick = take_while-cons (λ z. not (is_tick z.event)) y rest ∙ ap (λ (c : Bool). cond (not c) (y ∷ before_tick rest) []) tick

      pub by_tick : (b : Bool) → is_tick (seen p (step s e).answer) ≡ b → OnlyT (before_tick (y ∷ rest))
      by_tick true tick = subst OnlyT (sym (cut true tick)) refl
      by_tick false tick =
          subst OnlyT (sym (cut false tick))
          (subst (λ (zs : List CountedEvent). list_all (is_number t) (who_steps (table_of p) prio zs) ≡ true) (sym (take_while-cons (stays_up t x) y (before_tick rest)))
          (by_stays (not_tick p s e tick) (stays_up t x y) refl))

    only_t : (s : State) (es : List Event) (cs : List Counted) (ns : List Numbers) → IsPlace p s cs → Follows s cs t (at x t).downs → OnlyT (before_tick (places_from p s cs ns es))
    only_t s [] cs ns h f = refl
    only_t s (e ∷ es) cs ns h f =
        let ns' = edited_all (seen p (step s e).answer) ns in
        by_tick s e cs ns h f (places_from p (step s e).state (counts_next p valid s e cs) ns' es)
        (λ g. only_t (step s e).state es (counts_next p valid s e cs) ns' (place_next p valid s e cs h) g) (is_tick (seen p (step s e).answer)) refl

-- ---- along a run

-- the task of a step leads its priority, and goes on so
pub follows_first : (p : Project) (valid : IsValidProject p) (s : State) (e : Event) (cs : List Counted) (t : ℕ) → IsPlace p s cs → stepping (seen p (step s e).answer) ≡ Some t → (t < length p.tasks) × Follows (step s e).state (counts_next p valid s e cs) t (downs cs t)
follows_first p valid s e cs t h k =
    let c = step_of_chosen p s e t k in
    let b = chosen_is_leading p valid s cs h t c in
    let l = within_tasks p valid s cs h t b.state b.up in
    (l, follows_next p valid t l s e cs (downs cs t) h (steps_no_tick p s e t k) (record { low = omega arith; leads = λ d. b }))

turn_here : (p : Project) (valid : IsValidProject p) (s : State) (e : Event) (es : List Event) (cs : List Counted) (ns : List Numbers) → IsPlace p s cs → (o : Option ℕ) → stepping (seen p (step s e).answer) ≡ o → turn_kept (table_of p) (place p s cs ns e) (places_from p (step s e).state (counts_next p valid s e cs) (edited_all (seen p (step s e).answer) ns) es) o ≡ true
turn_here p valid s e es cs ns h None k = refl
turn_here p valid s e es cs ns h (Some t) k =
    let f = follows_first p valid s e cs t h k in
    only_one t _ (only_t p valid t f.0 (place p s cs ns e) (step s e).state es (counts_next p valid s e cs) (edited_all (seen p (step s e).answer) ns) (place_next p valid s e cs h) f.1)

pub runs_keep_turns : RunsKeepTurns
runs_keep_turns p journal valid =
    each_along p valid (keeps_turn (table_of p)) (λ s e es cs ns h. turn_here p valid s e es cs ns h (stepping (seen p (step s e).answer)) refl) (start p) journal (map (λ d. uncounted) (audit_tasks p.tasks p.schedule)) (replicate (length p.programs) unedited)
    (first_place p valid)
