-- The test of giving way at a tick decides its law.
use Rattle.std.specs.Prelude.{◌≡◌, ℕ, Bool, true, false, not, ◌&&◌, ◌||◌, ◌∷◌, ◌++◌, [], List, take_while, Option, Some, None, refl, nat_eq}
use Rattle.std.specs.List.{AllByRecursion as Each, list_any, list_all}
use Rattle.std.proofs.Common.{ap, sym, subst, ◌∙◌, eqb-true, eq-eqb}
use Rattle.std.proofs.lemmas.Bool.{and_from, and_parts, or_parts, or_from, not-true, not_from_false, false_from_ne_true}
use Rattle.std.proofs.lemmas.List.{append_assoc, take-append-drop}
use Rattle.spec_base.proofs.Lists.{each_map}
use Rattle.spec_schedule.specs.declared.trace.TraceEvent.{TraceEvent}
use Rattle.spec_schedule.specs.declared.trace.TraceEvent.TheVariants.{Idle, Began, Step, Left, Tick, Act}
use Rattle.spec_schedule.specs.declared.trace.Table.{Table}
use Rattle.spec_schedule.specs.Counting.{CountedEvent, CountedTask, counted_tasks, stepping, is_task}
use Rattle.spec_schedule.specs.Legal.{priority_of, stays_up, is_tick, before_tick, is_action, after_actions, is_turn, is_other_up, others_went, gives_turn, after_tick, each_from, way_given, gives_way}
use Rattle.spec_schedule.specs.TurnLaws.{StepsOverTick, HasGoneDown, GivesWay, WaysAreDecided}
use Rattle.spec_base.proofs.Lists.{each_parts}
use Rattle.spec_schedule.proofs.Places.{each_at, cut_while, pass_while, drop_while}

-- ---- tests

implied : (a b : Bool) → (a ≡ true → b ≡ true) → (not a || b) ≡ true
implied true b h = h refl
implied false b h = refl

follows : (a b : Bool) → (not a || b) ≡ true → a ≡ true → b ≡ true
follows true b h e = h
follows false b h e = absurd (cc e)

list_all_at : {A : Type 0} (test : A → Bool) (xs : List A) (y : A) (ys : List A) → list_all test (xs ++ y ∷ ys) ≡ true → test y ≡ true
list_all_at test [] y ys h = (and_parts (test y) (list_all test ys) h).0
list_all_at test (x ∷ xs) y ys h = list_all_at test xs y ys (and_parts (test x) (list_all test (xs ++ y ∷ ys)) h).1

list_all_from : {A : Type 0} (test : A → Bool) (zs : List A) → ((m : List A) (y : A) (r : List A) → zs ≡ m ++ y ∷ r → test y ≡ true) → list_all test zs ≡ true
list_all_from test [] h = refl
list_all_from test (z ∷ zs) h = and_from _ _ (h [] z zs refl) (list_all_from test zs (λ m y r e. h (z ∷ m) y r (ap (λ ys. z ∷ ys) e)))

-- ---- kinds of events

tick_no_action : (e : TraceEvent) → is_tick e ≡ true → is_action e ≡ false
tick_no_action Idle h = absurd (cc h)
tick_no_action (Began t g v) h = absurd (cc h)
tick_no_action (Step t g m f) h = absurd (cc h)
tick_no_action (Left t g b) h = absurd (cc h)
tick_no_action (Tick r o w) h = refl
tick_no_action (Act l v p a r) h = absurd (cc h)

step_no_tick : (e : TraceEvent) (t : ℕ) → stepping e ≡ Some t → is_tick e ≡ false
step_no_tick Idle t h = refl
step_no_tick (Began u g v) t h = refl
step_no_tick (Step u g m f) t h = refl
step_no_tick (Left u g b) t h = refl
step_no_tick (Tick r o w) t h = absurd (cc h)
step_no_tick (Act l v p a r) t h = refl

step_of : (t : ℕ) (o : Option ℕ) → is_task t o ≡ true → o ≡ Some t
step_of t None h = absurd (cc h)
step_of t (Some u) h = ap Some (eqb-true u t h)

-- ---- the other tasks

module _ (table : Table) (t : ℕ) (k y : CountedEvent) where
  gone_down : (us : List CountedTask) → list_any (is_other_up table t k y) us ≡ false → Each (HasGoneDown table t k y) us
  gone_down [] h = tt
  gone_down (u ∷ us) h =
      let p = or_parts (is_other_up table t k y u) (list_any (is_other_up table t k y) us) h in
      (λ up same other. false_from_ne_true _ (λ stays. (let all : is_other_up table t k y u ≡ true = and_from _ _ up (and_from _ _ (and_from _ _ (eq-eqb _ _ same) (not_from_false _ (false_from_ne_true _ (λ e. other (eqb-true _ _ e))))) stays) in cc (all, p.0))), gone_down us p.1)

  none_up : (us : List CountedTask) → Each (HasGoneDown table t k y) us → list_any (is_other_up table t k y) us ≡ false
  none_up [] h = refl
  none_up (u ∷ us) h =
      or_from _ _ (false_from_ne_true _ (λ e. (
      let p : ℕ = priority_of table t in
      let same : Bool = nat_eq u.task.priority p in
      let other : Bool = not (nat_eq u.number t) in
      let up : Bool = stays_up u.number k y in
      let a = and_parts u.counts.up (same && other && up) e in
      let b = and_parts (same && other) up a.1 in
      let c = and_parts same other b.0 in
      let down : up ≡ false = h.0 a.0 (eqb-true u.task.priority p c.0) (λ n. cc (not-true (nat_eq u.number t) c.1, eq-eqb u.number t n)) in
      cc (b.1, down)))) (none_up us h.1)

-- ---- from the test to the law

ways_given : (table : Table) (xs : List CountedEvent) → each_from (gives_way table) xs ≡ true → GivesWay table xs
ways_given table xs h t s =
    let ys : List CountedEvent = s.between ++ s.again ∷ s.rest in
    let later : List CountedEvent = s.actions ++ s.tick ∷ ys in
    let here : gives_way table s.first later ≡ true = each_at (gives_way table) s.before s.first later (subst (λ zs. each_from (gives_way table) zs ≡ true) s.places h) in
    let given : way_given table s.first later (Some t) ≡ true = subst (λ o. way_given table s.first later o ≡ true) s.first_steps here in
    let ticks : after_actions later ≡ s.tick ∷ ys = drop_while (λ x. is_action x.event) s.actions s.tick ys s.only_actions (tick_no_action s.tick.event s.ticks) in
    let next : after_tick table t s.first (s.tick ∷ ys) ≡ true = subst (λ zs. after_tick table t s.first zs ≡ true) ticks given in
    let turn : gives_turn table t s.tick ys ≡ true = follows _ _ next (and_from _ _ s.ticks s.could_pass) in
    let quiet : before_tick ys ≡ s.between ++ s.again ∷ before_tick s.rest = pass_while (λ x. not (is_tick x.event)) s.between (s.again ∷ s.rest) (each_map _ (λ x. not (is_tick x.event) ≡ true) s.between (λ x e. not_from_false _ e) s.no_tick) ∙ ap (λ zs. s.between ++ zs) (pass_while (λ x. not (is_tick x.event)) (s.again ∷ []) s.rest (not_from_false _ (step_no_tick s.again.event t s.again_steps), tt)) in
    let test : CountedEvent → Bool = λ y. not (is_task t (stepping y.event)) || others_went table t s.tick y in
    let again : test s.again ≡ true = list_all_at test s.between s.again (before_tick s.rest) (subst (λ zs. list_all test zs ≡ true) quiet turn) in
    let went : others_went table t s.tick s.again ≡ true = follows _ _ again (ap (is_task t) s.again_steps ∙ eq-eqb t t refl) in
    gone_down table t s.tick s.again (counted_tasks table.tasks s.tick.tasks) (not-true _ went)

-- ---- from the law to the test

-- the law of a trace is one of what follows a place
later_ways : (table : Table) (x : CountedEvent) (xs : List CountedEvent) → GivesWay table (x ∷ xs) → GivesWay table xs
later_ways table x xs h t s = h t (record {
  before = x ∷ s.before;
  first = s.first;
  actions = s.actions;
  tick = s.tick;
  between = s.between;
  again = s.again;
  rest = s.rest;
  places = ap (λ ys. x ∷ ys) s.places;
  first_steps = s.first_steps;
  only_actions = s.only_actions;
  ticks = s.ticks;
  could_pass = s.could_pass;
  no_tick = s.no_tick;
  again_steps = s.again_steps;
})

module _ (table : Table) (x : CountedEvent) (xs : List CountedEvent) (law : GivesWay table (x ∷ xs)) (t : ℕ) (e : stepping x.event ≡ Some t) where
  -- t gives way at tick k, with actions alone before it
  turn_given : (ones : List CountedEvent) (k : CountedEvent) (ys : List CountedEvent) → xs ≡ ones ++ k ∷ ys → Each (λ y. is_action y.event ≡ true) ones → is_tick k.event ≡ true → is_turn table t x k ≡ true → gives_turn table t k ys ≡ true
  turn_given ones k ys w only ticks could = list_all_from _ (before_tick ys) (λ m y r c. implied _ _ (λ steps. went m y r c (step_of t (stepping y.event) steps)))
    where
      went : (m : List CountedEvent) (y : CountedEvent) (r : List CountedEvent) → before_tick ys ≡ m ++ y ∷ r → stepping y.event ≡ Some t → others_went table t k y ≡ true
      went m y r c steps =
          let front = cut_while (λ y. not (is_tick y.event)) ys in
          let quiet = (each_parts (λ y. not (is_tick y.event) ≡ true) m (y ∷ r) (subst (Each (λ y. not (is_tick y.event) ≡ true)) c front.2)).0 in
          let places : ys ≡ m ++ y ∷ (r ++ front.0) = front.1 ∙ ap (λ zs. zs ++ front.0) c ∙ append_assoc m (y ∷ r) front.0 in
          let over : StepsOverTick table (x ∷ xs) t = record {
            before = [];
            first = x;
            actions = ones;
            tick = k;
            between = m;
            again = y;
            rest = r ++ front.0;
            places = ap (λ zs. x ∷ zs) (w ∙ ap (λ zs. ones ++ k ∷ zs) places);
            first_steps = e;
            only_actions = only;
            ticks = ticks;
            could_pass = could;
            no_tick = each_map _ (λ y. is_tick y.event ≡ false) m (λ y h. not-true _ h) quiet;
            again_steps = steps;
          } in
          not_from_false _ (none_up table t k y (counted_tasks table.tasks k.tasks) (law t over))

  tick_given : (ones ks : List CountedEvent) → xs ≡ ones ++ ks → Each (λ y. is_action y.event ≡ true) ones → after_tick table t x ks ≡ true
  tick_given ones [] w only = refl
  tick_given ones (k ∷ ys) w only = implied _ _ (λ p. (let h = and_parts (is_tick k.event) (is_turn table t x k) p in turn_given ones k ys w only h.0 h.1))

  step_given : way_given table x xs (Some t) ≡ true
  step_given =
      let front = cut_while (λ y. is_action y.event) xs in
      tick_given (take_while (λ y. is_action y.event) xs) (after_actions xs) (sym (take-append-drop _ xs)) front.2

ways_tested : (table : Table) (xs : List CountedEvent) → GivesWay table xs → each_from (gives_way table) xs ≡ true
ways_tested table [] h = refl
ways_tested table (x ∷ xs) h = and_from _ _ (go (stepping x.event) refl) (ways_tested table xs (later_ways table x xs h))
  where
    go : (o : Option ℕ) → stepping x.event ≡ o → way_given table x xs o ≡ true
    go None e = refl
    go (Some t) e = step_given table x xs h t e

pub ways_decided : WaysAreDecided
ways_decided table xs = (ways_given table xs, ways_tested table xs)
