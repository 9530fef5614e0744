-- How a journal with its ticks at the pace ends.
use Rattle.std.proofs.Common.{◌≡◌, ℕ, ◌+◌, ◌%◌, Bool, true, false, List, [], ◌∷◌, ◌++◌, Option, Some, None, refl, sym, ◌∙◌, ap, subst}
use Rattle.std.specs.Prelude.{◌&&◌, nat_eq}
use Rattle.std.specs.Bool.{beq as agree}
use Rattle.std.specs.List.{last_or}
use Rattle.std.proofs.lemmas.Bool.{and_from, and_parts, false≢true}
use Rattle.std.proofs.lemmas.List.{append-nil, append_assoc}
use Rattle.spec_machine.specs.declared.event.Action.{Action}
use Rattle.spec_machine.specs.declared.event.Event.{Event}
use Rattle.spec_machine.specs.declared.event.Event.TheVariants.{Cpu, Tick, Act}
use Rattle.spec_machine.specs.Events.{is_step, is_tick, steps_of}
use Rattle.spec_schedule.specs.Partial.{each_place, begins_with_tick, is_some_step, ends_pace, is_paced}
use Rattle.spec_lanes.proofs.Appended.{steps_on}

-- ---- the last event

pub record EndsWith (es : List Event) : Type 0 where
  pub before : List Event
  pub last : Event
  pub is : es ≡ before ++ last ∷ []

pub ends : (e : Event) (es : List Event) → EndsWith (e ∷ es)
ends e [] = record { before = []; last = e; is = refl }
ends e (x ∷ es) = let r = ends x es in record { before = e ∷ r.before; last = r.last; is = ap (λ (ys : List Event). e ∷ ys) r.is }

last_push : (o : Option Event) (es : List Event) (e : Event) → last_or o (es ++ e ∷ []) ≡ Some e
last_push o [] e = refl
last_push o (x ∷ es) e = last_push (Some x) es e

-- ---- places

abbrev stands_right : ℕ → List Event → List Event → Bool
stands_right pace before after = agree (begins_with_tick after) (ends_pace pace before)

abbrev places : ℕ → List Event → List Event → Bool
places pace before after = each_place (stands_right pace) before after

-- the places of the first events, if no tick follows them
first_places : (pace : ℕ) (before es : List Event) (d : Event) (ds : List Event) → is_tick d ≡ false → places pace before (es ++ d ∷ ds) ≡ true → places pace before es ≡ true
first_places pace before [] d ds none h =
    let parts = and_parts (stands_right pace before (d ∷ ds)) (places pace (before ++ d ∷ []) ds) h in
    sym (ap (λ b. agree b (ends_pace pace before)) none) ∙ parts.0
first_places pace before (e ∷ es) d ds none h =
    let parts = and_parts (stands_right pace before (e ∷ (es ++ d ∷ ds))) (places pace (before ++ e ∷ []) (es ++ d ∷ ds)) h in
    and_from (stands_right pace before (e ∷ es)) (places pace (before ++ e ∷ []) es) parts.0 (first_places pace (before ++ e ∷ []) es d ds none parts.1)

-- and those of the others
other_places : (pace : ℕ) (before es ds : List Event) → places pace before (es ++ ds) ≡ true → places pace (before ++ es) ds ≡ true
other_places pace before [] ds h = subst (λ (b : List Event). places pace b ds ≡ true) (sym (append-nil before)) h
other_places pace before (e ∷ es) ds h =
    let parts = and_parts (stands_right pace before (e ∷ (es ++ ds))) (places pace (before ++ e ∷ []) (es ++ ds)) h in
    subst (λ (b : List Event). places pace b ds ≡ true) (append_assoc before (e ∷ []) es) (other_places pace (before ++ e ∷ []) es ds parts.1)

agree_false : (b : Bool) → agree false b ≡ true → b ≡ false
agree_false true h = absurd (false≢true h)
agree_false false h = refl

agree_true : (b : Bool) → agree true b ≡ true → b ≡ true
agree_true true h = refl
agree_true false h = absurd (false≢true h)

only_step : (e : Event) → is_step e ≡ true → e ≡ Cpu
only_step Cpu h = refl
only_step Tick h = absurd (false≢true h)
only_step (Act lane a) h = absurd (false≢true h)

-- ---- the four ends

-- the number of the next processor step, and whether a tick follows it
abbrev pub is_tick_next : ℕ → List Event → Bool
is_tick_next pace es = nat_eq ((steps_of es + 1) % pace) 0

-- It is empty, or it ends with an action, with a processor step without a tick, or with one and its tick; what is before has
-- its ticks at the pace too.
pub data PacedEnd (pace : ℕ) : List Event → Type 0 where
  AtStart : PacedEnd pace []
  AfterAct : (es : List Event) (lane : ℕ) (a : Action) → is_paced pace es ≡ true → PacedEnd pace (es ++ Act lane a ∷ [])
  AfterStep : (es : List Event) → is_paced pace es ≡ true → is_tick_next pace es ≡ false → PacedEnd pace (es ++ Cpu ∷ [])
  AfterTick : (es : List Event) → is_paced pace es ≡ true → is_tick_next pace es ≡ true → PacedEnd pace (es ++ Cpu ∷ Tick ∷ [])

step_number : (pace : ℕ) (es : List Event) → nat_eq (steps_of (es ++ Cpu ∷ []) % pace) 0 ≡ is_tick_next pace es
step_number pace es = ap (λ n. nat_eq (n % pace) 0) (steps_on es (Cpu ∷ []))

after_cpu : (pace : ℕ) (es : List Event) → is_paced pace (es ++ Cpu ∷ []) ≡ true → PacedEnd pace (es ++ Cpu ∷ [])
after_cpu pace es h =
    let rest = other_places pace [] es (Cpu ∷ []) h in
    let end = (and_parts (stands_right pace es (Cpu ∷ [])) (stands_right pace (es ++ Cpu ∷ []) []) rest).1 in
    let none : ends_pace pace (es ++ Cpu ∷ []) ≡ false = agree_false (ends_pace pace (es ++ Cpu ∷ [])) end in
    let last = last_push None es Cpu in
    AfterStep es (first_places pace [] es Cpu [] refl h)
    (sym (step_number pace es) ∙ (sym (ap (λ (o : Option Event). is_some_step o && nat_eq (steps_of (es ++ Cpu ∷ []) % pace) 0) last) ∙ none))

-- what a tick stands after
after_owed : (pace : ℕ) (es : List Event) (x : Event) → is_paced pace ((es ++ x ∷ []) ++ Tick ∷ []) ≡ true → PacedEnd pace ((es ++ x ∷ []) ++ Tick ∷ [])
after_owed pace es x h =
    let one = es ++ x ∷ [] in
    let rest = other_places pace [] one (Tick ∷ []) h in
    let here = (and_parts (stands_right pace one (Tick ∷ [])) (stands_right pace (one ++ Tick ∷ []) []) rest).0 in
    let due : ends_pace pace one ≡ true = agree_true (ends_pace pace one) here in
    let last = last_push None es x in
    let parts = and_parts (is_step x) (nat_eq (steps_of one % pace) 0) (sym (ap (λ (o : Option Event). is_some_step o && nat_eq (steps_of one % pace) 0) last) ∙ due) in
    by_step x (only_step x parts.0) parts.1 h
  where
    by_step : (x : Event) → x ≡ Cpu → nat_eq (steps_of (es ++ x ∷ []) % pace) 0 ≡ true → is_paced pace ((es ++ x ∷ []) ++ Tick ∷ []) ≡ true → PacedEnd pace ((es ++ x ∷ []) ++ Tick ∷ [])
    by_step Cpu e n k =
        let whole = append_assoc es (Cpu ∷ []) (Tick ∷ []) in
        subst (λ (ys : List Event). PacedEnd pace ys) (sym whole)
        (AfterTick es (first_places pace [] es Cpu (Tick ∷ []) refl (subst (λ (ys : List Event). is_paced pace ys ≡ true) whole k)) (sym (step_number pace es) ∙ n))
    by_step Tick e n k = absurd (cc e)
    by_step (Act lane a) e n k = absurd (cc e)

after_tick : (pace : ℕ) (es : List Event) → is_paced pace (es ++ Tick ∷ []) ≡ true → PacedEnd pace (es ++ Tick ∷ [])
after_tick pace [] h = absurd (false≢true (let p = and_parts (stands_right pace [] (Tick ∷ [])) (stands_right pace (Tick ∷ []) []) h in p.0))
after_tick pace (e ∷ es) h =
    let r = ends e es in
    subst (λ (ys : List Event). PacedEnd pace (ys ++ Tick ∷ [])) (sym r.is)
    (after_owed pace r.before r.last (subst (λ (ys : List Event). is_paced pace (ys ++ Tick ∷ []) ≡ true) r.is h))

by_last : (pace : ℕ) (es : List Event) (e : Event) → is_paced pace (es ++ e ∷ []) ≡ true → PacedEnd pace (es ++ e ∷ [])
by_last pace es Cpu h = after_cpu pace es h
by_last pace es Tick h = after_tick pace es h
by_last pace es (Act lane a) h = AfterAct es lane a (first_places pace [] es (Act lane a) [] refl h)

pub paced_end : (pace : ℕ) (es : List Event) → is_paced pace es ≡ true → PacedEnd pace es
paced_end pace [] h = AtStart
paced_end pace (e ∷ es) h =
    let r = ends e es in
    subst (λ (ys : List Event). PacedEnd pace ys) (sym r.is) (by_last pace r.before r.last (subst (λ (ys : List Event). is_paced pace ys ≡ true) r.is h))
