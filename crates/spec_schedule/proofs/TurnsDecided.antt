-- The test of turns decides their law.
use Rattle.std.specs.Prelude.{◌≡◌, ℕ, ◌+◌, Bool, true, false, not, cond, ◌∷◌, ◌++◌, [], List, take_while, drop, filter_map, Option, Some, None, refl, nat_eq, if◌then◌else◌}
use Rattle.std.specs.List.{AllByRecursion as Each, list_any, prefix_len}
use Rattle.std.proofs.Common.{ap, sym, subst, ◌∙◌, eqb-true, eq-eqb}
use Rattle.std.proofs.Math.Numerals.{one-add}
use Rattle.std.proofs.lemmas.Bool.{and_from, not-true, not-false, not_from_false, true_from_ne_false}
use Rattle.std.proofs.lemmas.List.{append_assoc}
use Rattle.spec_base.proofs.Lists.{each_map}
use Rattle.spec_schedule.specs.declared.trace.Table.{Table}
use Rattle.spec_schedule.specs.Counting.{CountedEvent, stepping}
use Rattle.spec_schedule.specs.Legal.{priority_of, is_tick, before_tick, stays_up, of_priority, who_steps, keeps_on, each_from, turn_kept, keeps_turn}
use Rattle.spec_schedule.specs.TurnLaws.{IsSameTurn, StepsBetween, KeepsTurns, TurnsAreDecided}
use Rattle.spec_base.proofs.Lists.{each_parts}
use Rattle.spec_schedule.proofs.Places.{each_at, cut_while, two_cut, two_pass, kept_at, filter_cut, is_number, number_cut, number_there}

-- ---- a number after another one

keeps_on_cons : (t a : ℕ) (us : List ℕ) → keeps_on t (a ∷ us) ≡ cond (nat_eq a t) (keeps_on t us) (not (list_any (is_number t) us))
keeps_on_cons t a us = go (nat_eq a t) refl
  where
    go : (b : Bool) → nat_eq a t ≡ b → not (list_any (is_number t) (drop (cond b (1 + prefix_len (is_number t) us) 0) (a ∷ us))) ≡ cond b (keeps_on t us) (not (list_any (is_number t) us))
    go true e = rw one-add refl
    go false e = rw e refl

-- what stands before the number again is the number itself
keeps_on_at : (t : ℕ) (ones : List ℕ) (u : ℕ) (bs cs : List ℕ) → keeps_on t (ones ++ u ∷ (bs ++ t ∷ cs)) ≡ true → u ≡ t
keeps_on_at t [] u bs cs h = go (nat_eq u t) refl (sym (keeps_on_cons t u (bs ++ t ∷ cs)) ∙ h)
  where
    go : (b : Bool) → nat_eq u t ≡ b → cond b (keeps_on t (bs ++ t ∷ cs)) (not (list_any (is_number t) (bs ++ t ∷ cs))) ≡ true → u ≡ t
    go true e k = eqb-true u t e
    go false e k = absurd (cc (not-true _ k, number_there t bs cs))
keeps_on_at t (a ∷ ones) u bs cs h = go (nat_eq a t) refl (sym (keeps_on_cons t a (ones ++ u ∷ (bs ++ t ∷ cs))) ∙ h) (keeps_on_at t ones u bs cs)
  where
    there : list_any (is_number t) (ones ++ u ∷ (bs ++ t ∷ cs)) ≡ true
    there = rw (← append_assoc ones (u ∷ bs) (t ∷ cs)) (number_there t (ones ++ u ∷ bs) cs)

    go : (b : Bool) → nat_eq a t ≡ b → cond b (keeps_on t (ones ++ u ∷ (bs ++ t ∷ cs))) (not (list_any (is_number t) (ones ++ u ∷ (bs ++ t ∷ cs)))) ≡ true → (keeps_on t (ones ++ u ∷ (bs ++ t ∷ cs)) ≡ true → u ≡ t) → u ≡ t
    go true e k known = known k
    go false e k known = absurd (cc (not-true _ k, there))

-- if the test fails, another one stands before the number again
keeps_on_cut : (t : ℕ) (us : List ℕ) → keeps_on t us ≡ false → (ones : List ℕ) × (u : ℕ) × (bs : List ℕ) × (cs : List ℕ) × (us ≡ ones ++ u ∷ (bs ++ t ∷ cs)) × (nat_eq u t ≡ false)
keeps_on_cut t [] h = absurd (cc h)
keeps_on_cut t (a ∷ us) h = go (nat_eq a t) refl (sym (keeps_on_cons t a us) ∙ h) (keeps_on_cut t us)
  where
    go : (b : Bool) → nat_eq a t ≡ b → cond b (keeps_on t us) (not (list_any (is_number t) us)) ≡ false → (keeps_on t us ≡ false → (ones : List ℕ) × (u : ℕ) × (bs : List ℕ) × (cs : List ℕ) × (us ≡ ones ++ u ∷ (bs ++ t ∷ cs)) × (nat_eq u t ≡ false)) → (ones : List ℕ) × (u : ℕ) × (bs : List ℕ) × (cs : List ℕ) × (a ∷ us ≡ ones ++ u ∷ (bs ++ t ∷ cs)) × (nat_eq u t ≡ false)
    go true e k known = let s = known k in (a ∷ s.0, s.1, s.2, s.3, ap (λ xs. a ∷ xs) s.4, s.5)
    go false e k known = let s = number_cut t us (not-false _ k) in ([], a, s.0, s.1, ap (λ xs. a ∷ xs) s.2, e)

-- ---- steps by priority

steps_at : (table : Table) (p u : ℕ) (o : Option ℕ) → of_priority table p o ≡ Some u → (o ≡ Some u) × (priority_of table u ≡ p)
steps_at table p u None h = absurd (cc h)
steps_at table p u (Some v) h = go (nat_eq (priority_of table v) p) refl h
  where
    go : (b : Bool) → nat_eq (priority_of table v) p ≡ b → (if b then Some v else None) ≡ Some u → (Some v ≡ Some u) × (priority_of table u ≡ p)
    go true e k = let same : v ≡ u = cc k in (k, subst (λ n. priority_of table n ≡ p) same (eqb-true (priority_of table v) p e))
    go false e k = absurd (cc k)

of_own : (table : Table) (p u : ℕ) → priority_of table u ≡ p → of_priority table p (Some u) ≡ Some u
of_own table p u e = rw (eq-eqb (priority_of table u) p e) refl

-- ---- from the test to the law

no_ticks : (xs : List CountedEvent) (t : ℕ) (x : CountedEvent) → Each (IsSameTurn t x) xs → Each (λ y. not (is_tick y.event) ≡ true) xs
no_ticks xs t x h = each_map (IsSameTurn t x) (λ y. not (is_tick y.event) ≡ true) xs (λ y s. not_from_false _ s.no_tick) h

ups : (xs : List CountedEvent) (t : ℕ) (x : CountedEvent) → Each (IsSameTurn t x) xs → Each (λ y. stays_up t x y ≡ true) xs
ups xs t x h = each_map (IsSameTurn t x) (λ y. stays_up t x y ≡ true) xs (λ y s. s.up) h

-- who steps in the same turn after the first step
steps_seen : (table : Table) (xs : List CountedEvent) (t u : ℕ) (s : StepsBetween xs t u) → priority_of table u ≡ priority_of table t → (ones bs cs : List ℕ) × (who_steps table (priority_of table t) (take_while (stays_up t s.first) (before_tick (s.between ++ s.other ∷ (s.after ++ s.again ∷ s.rest)))) ≡ ones ++ u ∷ (bs ++ t ∷ cs))
steps_seen table xs t u s same =
    let p : ℕ = priority_of table t in
    let f : CountedEvent → Option ℕ = λ x. of_priority table p (stepping x.event) in
    let early = two_pass (λ x. not (is_tick x.event)) s.between s.other s.after s.again s.rest (no_ticks s.between t s.first s.between_same) (not_from_false _ s.other_same.no_tick) (no_ticks s.after t s.first s.after_same) (not_from_false _ s.again_same.no_tick) in
    let up = two_pass (stays_up t s.first) s.between s.other s.after s.again (before_tick s.rest) (ups s.between t s.first s.between_same) s.other_same.up (ups s.after t s.first s.after_same) s.again_same.up in
    let other : f s.other ≡ Some u = ap (of_priority table p) s.other_steps ∙ of_own table p u same in
    let again : f s.again ≡ Some t = ap (of_priority table p) s.again_steps ∙ of_own table p t refl in
    let late : List CountedEvent = take_while (stays_up t s.first) (before_tick s.rest) in
    (filter_map f s.between, filter_map f s.after, filter_map f late, ap (λ ys. filter_map f (take_while (stays_up t s.first) ys)) early ∙ ap (filter_map f) up ∙ kept_at f s.between s.other u (s.after ++ s.again ∷ late) other ∙ ap (λ vs. filter_map f s.between ++ u ∷ vs) (kept_at f s.after s.again t late again))

turns_kept : (table : Table) (xs : List CountedEvent) → each_from (keeps_turn table) xs ≡ true → KeepsTurns table xs
turns_kept table xs h t u s same =
    let later : List CountedEvent = s.between ++ s.other ∷ (s.after ++ s.again ∷ s.rest) in
    let here : keeps_turn table s.first later ≡ true = each_at (keeps_turn table) s.before s.first later (subst (λ ys. each_from (keeps_turn table) ys ≡ true) s.places h) in
    let kept : turn_kept table s.first later (Some t) ≡ true = subst (λ o. turn_kept table s.first later o ≡ true) s.first_steps here in
    let seen = steps_seen table xs t u s same in
    keeps_on_at t seen.0 u seen.1 seen.2 (subst (λ us. keeps_on t us ≡ true) seen.3 kept)

-- ---- from the law to the test

-- the law of a trace is one of what follows a place
later_turns : (table : Table) (x : CountedEvent) (xs : List CountedEvent) → KeepsTurns table (x ∷ xs) → KeepsTurns table xs
later_turns table x xs h t u s same = h t u (record {
  before = x ∷ s.before;
  first = s.first;
  between = s.between;
  other = s.other;
  after = s.after;
  again = s.again;
  rest = s.rest;
  places = ap (λ ys. x ∷ ys) s.places;
  first_steps = s.first_steps;
  other_steps = s.other_steps;
  again_steps = s.again_steps;
  between_same = s.between_same;
  other_same = s.other_same;
  after_same = s.after_same;
  again_same = s.again_same;
}) same

same_turns : (t : ℕ) (x : CountedEvent) (ys : List CountedEvent) → Each (λ y. not (is_tick y.event) ≡ true) ys → Each (λ y. stays_up t x y ≡ true) ys → Each (IsSameTurn t x) ys
same_turns t x [] h k = tt
same_turns t x (y ∷ ys) h k = (record { no_tick = not-true _ h.0; up = k.0 }, same_turns t x ys h.1 k.1)

-- where the test fails after a step x of t: another task's step in the same turn, and then t's again
record Another (table : Table) (x : CountedEvent) (xs : List CountedEvent) (t : ℕ) : Type 0 where
  u : ℕ
  between : List CountedEvent
  other : CountedEvent
  after : List CountedEvent
  again : CountedEvent
  rest : List CountedEvent
  places : take_while (stays_up t x) (before_tick xs) ≡ between ++ other ∷ (after ++ again ∷ rest)
  other_steps : of_priority table (priority_of table t) (stepping other.event) ≡ Some u
  again_steps : of_priority table (priority_of table t) (stepping again.event) ≡ Some t
  differs : nat_eq u t ≡ false

another : (table : Table) (x : CountedEvent) (xs : List CountedEvent) (t : ℕ) → turn_kept table x xs (Some t) ≡ false → Another table x xs t
another table x xs t h =
    let f : CountedEvent → Option ℕ = λ x. of_priority table (priority_of table t) (stepping x.event) in
    let zs : List CountedEvent = take_while (stays_up t x) (before_tick xs) in
    let c = keeps_on_cut t (filter_map f zs) h in
    let m = filter_cut f zs c.0 c.1 (c.2 ++ t ∷ c.3) c.4 in
    let n = filter_cut f m.2 c.2 t c.3 m.5 in
    record { u = c.1; between = m.0; other = m.1; after = n.0; again = n.1; rest = n.2; places = m.3 ∙ ap (λ ys. m.0 ++ m.1 ∷ ys) n.3; other_steps = m.4; again_steps = n.4; differs = c.5 }

-- what stands in the same turn, and the rest of the trace
turn_places : (t : ℕ) (x : CountedEvent) (xs zs : List CountedEvent) → take_while (stays_up t x) (before_tick xs) ≡ zs → (rest : List CountedEvent) × (xs ≡ zs ++ rest) × Each (IsSameTurn t x) zs
turn_places t x xs zs e =
    let ys : List CountedEvent = take_while (stays_up t x) (before_tick xs) in
    let up = cut_while (stays_up t x) (before_tick xs) in
    let front = cut_while (λ y. not (is_tick y.event)) xs in
    let quiet = each_parts (λ y. not (is_tick y.event) ≡ true) ys up.0 (subst (Each (λ y. not (is_tick y.event) ≡ true)) up.1 front.2) in
    (up.0 ++ front.0, front.1 ∙ ap (λ ws. ws ++ front.0) up.1 ∙ append_assoc ys up.0 front.0 ∙ ap (λ ws. ws ++ (up.0 ++ front.0)) e, subst (Each (IsSameTurn t x)) e (same_turns t x ys quiet.0 up.2))

-- if the test fails at a step of t, another task steps before t does again
another_steps : (table : Table) (x : CountedEvent) (xs : List CountedEvent) (t : ℕ) → stepping x.event ≡ Some t → (a : Another table x xs t) → StepsBetween (x ∷ xs) t a.u × (priority_of table a.u ≡ priority_of table t)
another_steps table x xs t e a =
    let p : ℕ = priority_of table t in
    let later = turn_places t x xs _ a.places in
    let first = each_parts (IsSameTurn t x) a.between (a.other ∷ (a.after ++ a.again ∷ a.rest)) later.2 in
    let second = each_parts (IsSameTurn t x) a.after (a.again ∷ a.rest) first.1.1 in
    let u = steps_at table p a.u (stepping a.other.event) a.other_steps in (
      record {
        before = [];
        first = x;
        between = a.between;
        other = a.other;
        after = a.after;
        again = a.again;
        rest = a.rest ++ later.0;
        places = ap (λ ys. x ∷ ys) (later.1 ∙ two_cut a.between a.other a.after a.again a.rest later.0);
        first_steps = e;
        other_steps = u.0;
        again_steps = (steps_at table p t (stepping a.again.event) a.again_steps).0;
        between_same = first.0;
        other_same = first.1.0;
        after_same = second.0;
        again_same = second.1.0;
      },
      u.1,
    )

turns_tested : (table : Table) (xs : List CountedEvent) → KeepsTurns table xs → each_from (keeps_turn table) xs ≡ true
turns_tested table [] h = refl
turns_tested table (x ∷ xs) h = and_from _ _ (go (stepping x.event) refl) (turns_tested table xs (later_turns table x xs h))
  where
    go : (o : Option ℕ) → stepping x.event ≡ o → turn_kept table x xs o ≡ true
    go None e = refl
    go (Some t) e = true_from_ne_false _ (λ f. (let a = another table x xs t f in let s = another_steps table x xs t e a in cc (a.differs, eq-eqb a.u t (h t a.u s.0 s.1))))

pub turns_decided : TurnsAreDecided
turns_decided table xs = (turns_kept table xs, turns_tested table xs)
