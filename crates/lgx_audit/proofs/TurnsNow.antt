-- The first part of the turn law in one pass.
use Rattle.std.specs.Prelude.{◌≡◌, ℕ, ◌+◌, Bool, true, false, not, cond, ◌&&◌, ◌||◌, ◌∷◌, [], List, take_while, drop, Option, Some, None, refl, nat_eq, slice_index_or}
use Rattle.std.specs.List.{cons_option, list_any, prefix_len}
use Rattle.std.proofs.Common.{ap, sym, ◌∙◌, eqb-true, eq-eqb}
use Rattle.std.proofs.Math.Numerals.{one-add}
use Rattle.std.proofs.lemmas.Bool.{ne_eqb}
use Rattle.std.proofs.lemmas.List.Sums.{take_while-cons}
use Rattle.spec_schedule.specs.declared.trace.AuditTask.{AuditTask}
use Rattle.spec_schedule.specs.declared.trace.Table.{Table}
use Rattle.spec_schedule.specs.declared.trace.TraceEvent.{TraceEvent}
use Rattle.spec_schedule.specs.Counting.{Counted, uncounted, counted_all, Numbers, edited_all, CountedEvent, counted_events_from, stepping}
use Rattle.spec_schedule.specs.Legal.{priority_of, at, is_tick, before_tick, of_priority, who_steps, keeps_on, turn_kept, keeps_turn}
use Rattle.lgx_audit.specs.declared.watch.TurnState.{TurnState}
use Rattle.lgx_audit.specs.Watching.{watched_step}

abbrev is_number : ℕ → ℕ → Bool
is_number t u = nat_eq u t

-- who steps of t's priority from here to the next tick, as long as t has gone down so often
abbrev pub who : Table → ℕ → ℕ → List CountedEvent → List ℕ
who table t d ys = who_steps table (priority_of table t) (take_while (λ y. nat_eq d (at y t).downs) (before_tick ys))

-- t isn't among them; or not after another one
abbrev pub kept : ℕ → (passed : Bool) → List ℕ → Bool
kept t true us = not (list_any (is_number t) us)
kept t false us = keeps_on t us

-- what a step of t asks of the places from here on
abbrev pub owes : Table → ℕ → ℕ → TurnState → List CountedEvent → Bool
owes table t d w ys = not w.stepped || kept t w.passed (who table t d ys)

keeps_on_cons : (t a : ℕ) (us : List ℕ) → keeps_on t (a ∷ us) ≡ cond (nat_eq a t) (keeps_on t us) (not (list_any (is_number t) us))
keeps_on_cons t a us = go (nat_eq a t) refl
  where
    go : (b : Bool) → nat_eq a t ≡ b → not (list_any (is_number t) (drop (cond b (1 + prefix_len (is_number t) us) 0) (a ∷ us))) ≡ cond b (keeps_on t us) (not (list_any (is_number t) us))
    go true e = rw one-add refl
    go false e = rw e refl

module _ (table : Table) (t d : ℕ) where
  -- one place on
  pub who_cons : (y : CountedEvent) (ys : List CountedEvent) → who table t d (y ∷ ys) ≡ cond (is_tick y.event) [] (cond (nat_eq d (at y t).downs) (cons_option (of_priority table (priority_of table t) (stepping y.event)) (who table t d ys)) [])
  who_cons y ys =
      ap (λ (zs : List CountedEvent). who_steps table (priority_of table t) (take_while (λ y. nat_eq d (at y t).downs) zs)) (take_while-cons (λ x. not (is_tick x.event)) y ys)
      ∙ by_tick (is_tick y.event)
    where
      by_stay : (b : Bool) → who_steps table (priority_of table t) (cond b (y ∷ take_while (λ y. nat_eq d (at y t).downs) (before_tick ys)) []) ≡ cond b (cons_option (of_priority table (priority_of table t) (stepping y.event)) (who table t d ys)) []
      by_stay true = refl
      by_stay false = refl

      by_tick : (b : Bool) → who_steps table (priority_of table t) (take_while (λ y. nat_eq d (at y t).downs) (cond (not b) (y ∷ before_tick ys) [])) ≡ cond b [] (cond (nat_eq d (at y t).downs) (cons_option (of_priority table (priority_of table t) (stepping y.event)) (who table t d ys)) [])
      by_tick true = refl
      by_tick false =
          ap (who_steps table (priority_of table t)) (take_while-cons (λ y. nat_eq d (at y t).downs) y (before_tick ys))
          ∙ by_stay (nat_eq d (at y t).downs)

  -- after t has gone down nobody is among them
  pub who_none : (ds : List AuditTask) (cs : List Counted) (ns : List Numbers) (es : List TraceEvent) → nat_eq d (slice_index_or cs t uncounted).downs ≡ false → who table t d (counted_events_from ds cs ns es) ≡ []
  who_none ds cs ns [] h = refl
  who_none ds cs ns (e ∷ es) h =
      who_cons (record { tasks = cs; programs = ns; event = e }) (counted_events_from ds (counted_all ds e cs) (edited_all e ns) es)
      ∙ go (is_tick e) (nat_eq d (slice_index_or cs t uncounted).downs) h
    where
      go : (b s : Bool) → s ≡ false → cond b [] (cond s (cons_option (of_priority table (priority_of table t) (stepping e)) (who table t d (counted_events_from ds (counted_all ds e cs) (edited_all e ns) es))) []) ≡ []
      go true s k = refl
      go false s k = rw k refl

-- ---- one event on

or_false : (b c : Bool) → c ≡ false → (b || c) ≡ b
or_false true c h = refl
or_false false c h = h

-- kept, where u of t's priority steps first
kept_other : (t u : ℕ) (passed : Bool) (us : List ℕ) → nat_eq u t ≡ false → kept t passed (u ∷ us) ≡ kept t true us
kept_other t u true us h = ap (λ b. not (b || list_any (is_number t) us)) h
kept_other t u false us h = keeps_on_cons t u us ∙ ap (λ b. cond b (keeps_on t us) (not (list_any (is_number t) us))) h

kept_own : (t : ℕ) (us : List ℕ) → kept t false (t ∷ us) ≡ kept t false us
kept_own t us = keeps_on_cons t t us ∙ ap (λ b. cond b (keeps_on t us) (not (list_any (is_number t) us))) (eq-eqb t t refl)

own_again : (t : ℕ) (us : List ℕ) → kept t true (t ∷ us) ≡ false
own_again t us = ap (λ b. not (b || list_any (is_number t) us)) (eq-eqb t t refl)

abbrev after_passed : Table → ℕ → Option ℕ → Bool → Bool
after_passed table t None passed = passed
after_passed table t (Some u) passed = passed || nat_eq (priority_of table u) (priority_of table t)

-- whoever steps, unless it is t: what it asks of who steps from there on
kept_step : (table : Table) (t : ℕ) (o : Option ℕ) (passed : Bool) (us : List ℕ) → (o ≡ Some t → ⊥) → kept t passed (cons_option (of_priority table (priority_of table t) o) us) ≡ kept t (after_passed table t o passed) us
kept_step table t None passed us ne = refl
kept_step table t (Some u) passed us ne = go (nat_eq (priority_of table u) (priority_of table t))
  where
    differs : nat_eq u t ≡ false
    differs = ne_eqb u t (λ e. ne (ap (λ n. Some n) e))

    go : (b : Bool) → kept t passed (cons_option (cond b (Some u) None) us) ≡ kept t (passed || b) us
    go true = kept_other t u passed us differs ∙ by_passed passed
      where
        by_passed : (b : Bool) → kept t true us ≡ kept t (b || true) us
        by_passed true = refl
        by_passed false = refl
    go false = by_passed passed
      where
        by_passed : (b : Bool) → kept t b us ≡ kept t (b || false) us
        by_passed true = refl
        by_passed false = refl

pub kept_nil : (t : ℕ) (passed : Bool) → kept t passed [] ≡ true
kept_nil t true = refl
kept_nil t false = refl

both : (b : Bool) → (b && b) ≡ b
both true = refl
both false = refl

-- t stays up
same_asked : (table : Table) (t d d' : ℕ) (ys : List CountedEvent) (stepped passed : Bool) → d ≡ d' → (not stepped || kept t passed (who table t d ys)) ≡ (not (stepped && true) || kept t passed (who table t d' ys))
same_asked table t d d' ys true passed e = ap (λ n. kept t passed (who table t n ys)) e
same_asked table t d d' ys false passed e = refl

-- t has gone down
none_asked : (table : Table) (t d d' : ℕ) (ys : List CountedEvent) (stepped passed passed' : Bool) → who table t d ys ≡ [] → (not stepped || kept t passed (who table t d ys)) ≡ (not (stepped && false) || kept t passed' (who table t d' ys))
none_asked table t d d' ys true passed passed' e = ap (kept t passed) e ∙ kept_nil t passed
none_asked table t d d' ys false passed passed' e = refl

module _ (table : Table) (t : ℕ) (ds : List AuditTask) (cs : List Counted) (ns : List Numbers) (e : TraceEvent) (es : List TraceEvent) where
  abbrev y : CountedEvent
  y = record { tasks = cs; programs = ns; event = e }

  abbrev cs' : List Counted
  cs' = counted_all ds e cs

  abbrev ys : List CountedEvent
  ys = counted_events_from ds cs' (edited_all e ns) es

  abbrev d : ℕ
  d = (slice_index_or cs t uncounted).downs

  abbrev d' : ℕ
  d' = (slice_index_or cs' t uncounted).downs

  -- at no tick
  who_here : is_tick e ≡ false → who table t d (y ∷ ys) ≡ cons_option (of_priority table (priority_of table t) (stepping e)) (who table t d ys)
  who_here no_tick = who_cons table t d y ys ∙ rw (no_tick, eq-eqb d d refl) refl

  -- a step that isn't t's, or an action: what t asks before it is what it asks after it
  pub others_step : (w : TurnState) → is_tick e ≡ false → (stepping e ≡ Some t → ⊥) → owes table t d w (y ∷ ys) ≡ owes table t d' (watched_step table t (stepping e) (nat_eq d d') w) ys
  others_step w no_tick ne =
      ap (λ us. not w.stepped || kept t w.passed us) (who_here no_tick)
      ∙ ap (λ b. not w.stepped || b) (kept_step table t (stepping e) w.passed (who table t d ys) ne)
      ∙ by_stay (nat_eq d d') refl (stepping e) ne
    where
      by_stay : (b : Bool) → nat_eq d d' ≡ b → (o : Option ℕ) → (o ≡ Some t → ⊥) → (not w.stepped || kept t (after_passed table t o w.passed) (who table t d ys)) ≡ owes table t d' (watched_step table t o b w) ys
      by_stay true k None ne = same_asked table t d d' ys w.stepped w.passed (eqb-true d d' k)
      by_stay true k (Some u) ne =
          rw (ne_eqb u t (λ e. ne (ap (λ n. Some n) e)))
          (same_asked table t d d' ys w.stepped (after_passed table t (Some u) w.passed) (eqb-true d d' k))
      by_stay false k None ne = none_asked table t d d' ys w.stepped w.passed w.passed (who_none table t d ds cs' (edited_all e ns) es k)
      by_stay false k (Some u) ne =
          rw (ne_eqb u t (λ e. ne (ap (λ n. Some n) e)))
          (none_asked table t d d' ys w.stepped (after_passed table t (Some u) w.passed) (after_passed table t (Some u) w.passed) (who_none table t d ds cs' (edited_all e ns) es k))

  -- a step of t: what it asked before, and what the law asks of this step, is the test of this step and what t asks after it
  pub own_step : (w : TurnState) → is_tick e ≡ false → stepping e ≡ Some t → (owes table t d w (y ∷ ys) && keeps_turn table y ys) ≡ (not (w.stepped && w.passed) && owes table t d' (watched_step table t (stepping e) (nat_eq d d') w) ys)
  own_step w no_tick own =
      ap (λ us. (not w.stepped || kept t w.passed us) && keeps_turn table y ys) (who_here no_tick)
      ∙ (ap (λ o. (not w.stepped || kept t w.passed (cons_option (of_priority table (priority_of table t) o) us)) && turn_kept table y ys o) own
      ∙ (ap (λ b. (not w.stepped || kept t w.passed (cons_option (cond b (Some t) None) us)) && kept t false us) (eq-eqb (priority_of table t) (priority_of table t) refl)
      ∙ (by_watch w.stepped w.passed
      ∙ ap (λ o. not (w.stepped && w.passed) && owes table t d' (watched_step table t o (nat_eq d d') w) ys) (sym own))))
    where
      us : List ℕ
      us = who table t d ys

      new : (b : Bool) → nat_eq d d' ≡ b → kept t false us ≡ (not b || kept t false (who table t d' ys))
      new true k = same_asked table t d d' ys true false (eqb-true d d' k)
      new false k = none_asked table t d d' ys true false false (who_none table t d ds cs' (edited_all e ns) es k)

      asked : kept t false us ≡ owes table t d' (watched_step table t (Some t) (nat_eq d d') w) ys
      asked = rw (eq-eqb t t refl) (new (nat_eq d d') refl)

      by_watch : (stepped passed : Bool) → ((not stepped || kept t passed (t ∷ us)) && kept t false us) ≡ (not (stepped && passed) && owes table t d' (watched_step table t (Some t) (nat_eq d d') w) ys)
      by_watch false passed = asked
      by_watch true true = ap (λ b. b && kept t false us) (own_again t us)
      by_watch true false = ap (λ b. b && kept t false us) (kept_own t us) ∙ (both (kept t false us) ∙ asked)

  -- a tick: nothing is asked from there on
  pub tick_step : (w : TurnState) → is_tick e ≡ true → owes table t d w (y ∷ ys) ≡ true
  tick_step w tick = ap (λ us. not w.stepped || kept t w.passed us) (who_cons table t d y ys ∙ rw tick refl) ∙ (ap (λ b. not w.stepped || b) (kept_nil t w.passed) ∙ always w.stepped)
    where
      always : (b : Bool) → (not b || true) ≡ true
      always true = refl
      always false = refl
