-- The places of a journal with more events after it: where ticks stand, and what lies up to a processor step.
use Rattle.std.proofs.Common.{◌≡◌, ℕ, zero, suc, ◌%◌, ◌≤◌, Bool, true, false, cond, List, [], ◌∷◌, ◌++◌, Option, Some, None, refl, sym, ◌∙◌, ap, subst, arith}
use Rattle.std.specs.Prelude.{◌&&◌, nat_eq}
use Rattle.std.specs.Bool.{beq as agree}
use Rattle.std.specs.List.{last_or}
use Rattle.std.proofs.lemmas.Bool.{and_from, and_parts}
use Rattle.std.proofs.lemmas.List.{append-nil, append_assoc}
use Rattle.spec_machine.specs.declared.event.Action.{Action}
use Rattle.spec_machine.specs.declared.event.Event.{Event}
use Rattle.spec_machine.specs.declared.event.Event.TheVariants.{Cpu, Tick, Act}
use Rattle.spec_machine.specs.Events.{is_tick, steps_of}
use Rattle.spec_schedule.specs.Partial.{each_place, begins_with_tick, is_some_step, ends_pace, is_paced, tick_at, through_step}
use Rattle.spec_lanes.proofs.Appended.{steps_on, steps_first}

-- ---- ticks

abbrev stands_right : ℕ → List Event → List Event → Bool
stands_right pace before after = agree (begins_with_tick after) (ends_pace pace before)

-- the places of the first events, and then those of the others
places_on : (pace : ℕ) (before es : List Event) (d : Event) (ds : List Event) → each_place (stands_right pace) before es ≡ true → each_place (stands_right pace) (before ++ es) (d ∷ ds) ≡ true → each_place (stands_right pace) before (es ++ d ∷ ds) ≡ true
places_on pace before [] d ds first others =
    subst (λ (b : List Event). each_place (stands_right pace) b (d ∷ ds) ≡ true) (append-nil before) others
places_on pace before (e ∷ es) d ds first others =
    let parts = and_parts (stands_right pace before (e ∷ es)) (each_place (stands_right pace) (before ++ e ∷ []) es) first in
    and_from (stands_right pace before (e ∷ (es ++ d ∷ ds))) (each_place (stands_right pace) (before ++ e ∷ []) (es ++ d ∷ ds)) parts.0
    (places_on pace (before ++ e ∷ []) es d ds parts.1
    (subst (λ (b : List Event). each_place (stands_right pace) b (d ∷ ds) ≡ true) (sym (append_assoc before (e ∷ []) es)) others))

-- at the end no tick is owed
last_place : (pace : ℕ) (before es : List Event) → each_place (stands_right pace) before es ≡ true → stands_right pace (before ++ es) [] ≡ true
last_place pace before [] h = subst (λ (b : List Event). stands_right pace b [] ≡ true) (sym (append-nil before)) h
last_place pace before (e ∷ es) h =
    let parts = and_parts (stands_right pace before (e ∷ es)) (each_place (stands_right pace) (before ++ e ∷ []) es) h in
    subst (λ (b : List Event). stands_right pace b [] ≡ true) (append_assoc before (e ∷ []) es) (last_place pace (before ++ e ∷ []) es parts.1)

-- more events, the first of which is no tick
pub paced_on : (pace : ℕ) (es : List Event) (d : Event) (ds : List Event) → is_tick d ≡ false → is_paced pace es ≡ true → each_place (stands_right pace) (es ++ d ∷ []) ds ≡ true → is_paced pace (es ++ d ∷ ds) ≡ true
paced_on pace es d ds none before after =
    let owed = last_place pace [] es before in
    let here : stands_right pace es (d ∷ ds) ≡ true = ap (λ b. agree b (ends_pace pace es)) none ∙ owed in
    places_on pace [] es d ds before (and_from (stands_right pace es (d ∷ ds)) _ here after)

-- the last event
last_push : (o : Option Event) (es : List Event) (e : Event) → last_or o (es ++ e ∷ []) ≡ Some e
last_push o [] e = refl
last_push o (x ∷ es) e = last_push (Some x) es e

pub paced_act : (pace : ℕ) (es : List Event) (lane : ℕ) (a : Action) → is_paced pace es ≡ true → is_paced pace (es ++ Act lane a ∷ []) ≡ true
paced_act pace es lane a before =
    let last = last_push None es (Act lane a) in
    paced_on pace es (Act lane a) [] refl before (ap (λ (o : Option Event). agree false (is_some_step o && nat_eq (steps_of (es ++ Act lane a ∷ []) % pace) 0)) last)

-- a processor step whose number the pace doesn't divide
pub paced_cpu : (pace : ℕ) (es : List Event) → nat_eq (steps_of (es ++ Cpu ∷ []) % pace) 0 ≡ false → is_paced pace es ≡ true → is_paced pace (es ++ Cpu ∷ []) ≡ true
paced_cpu pace es none before =
    let last = last_push None es Cpu in
    paced_on pace es Cpu [] refl before
    (ap (λ (o : Option Event). agree false (is_some_step o && nat_eq (steps_of (es ++ Cpu ∷ []) % pace) 0)) last ∙ ap (λ b. agree false b) none)

-- one whose number it divides, with its tick
pub paced_tick : (pace : ℕ) (es : List Event) → nat_eq (steps_of (es ++ Cpu ∷ []) % pace) 0 ≡ true → is_paced pace es ≡ true → is_paced pace (es ++ Cpu ∷ Tick ∷ []) ≡ true
paced_tick pace es due before =
    let one = es ++ Cpu ∷ [] in
    let last = last_push None es Cpu in
    let end = last_push None one Tick in
    let ticks : stands_right pace one (Tick ∷ []) ≡ true =
    ap (λ (o : Option Event). agree true (is_some_step o && nat_eq (steps_of one % pace) 0)) last ∙ ap (λ b. agree true b) due in
    let ends : stands_right pace (one ++ Tick ∷ []) [] ≡ true =
    ap (λ (o : Option Event). agree false (is_some_step o && nat_eq (steps_of (one ++ Tick ∷ []) % pace) 0)) end in
    paced_on pace es Cpu (Tick ∷ []) refl before (and_from (stands_right pace one (Tick ∷ [])) _ ticks ends)

-- ---- up to a processor step

-- more events, the first of which is no tick, leave what lies up to an earlier step and its tick
pub through_on : (n : ℕ) (es : List Event) (d : Event) (ds : List Event) → is_tick d ≡ false → n ≤ steps_of es → through_step n (es ++ d ∷ ds) ≡ through_step n es
through_on zero [] d ds none le = ap (λ b. cond b (d ∷ []) []) none
through_on zero (e ∷ es) d ds none le = refl
through_on (suc n) [] d ds none le = absurd (omega arith)
through_on (suc n) (Cpu ∷ es) d ds none le =
    ap (λ (xs : List Event). Cpu ∷ xs) (through_on n es d ds none (let a = steps_first Cpu es in omega arith))
through_on (suc n) (Tick ∷ es) d ds none le =
    ap (λ (xs : List Event). Tick ∷ xs) (through_on (suc n) es d ds none (let a = steps_first Tick es in omega arith))
through_on (suc n) (Act l a ∷ es) d ds none le =
    ap (λ (xs : List Event). Act l a ∷ xs) (through_on (suc n) es d ds none (let b = steps_first (Act l a) es in omega arith))

-- what lies up to the last step and its tick
through_last : (n : ℕ) (es ds : List Event) → n ≡ steps_of es → through_step (suc n) (es ++ Cpu ∷ ds) ≡ es ++ Cpu ∷ tick_at ds
through_last zero [] ds e = refl
through_last (suc n) [] ds e = absurd (omega arith)
through_last zero (Cpu ∷ es) ds e = absurd (let a = steps_first Cpu es in omega arith)
through_last (suc n) (Cpu ∷ es) ds e =
    ap (λ (xs : List Event). Cpu ∷ xs) (through_last n es ds (let a = steps_first Cpu es in omega arith))
through_last n (Tick ∷ es) ds e = ap (λ (xs : List Event). Tick ∷ xs) (through_last n es ds (let a = steps_first Tick es in omega arith))
through_last n (Act l a ∷ es) ds e =
    ap (λ (xs : List Event). Act l a ∷ xs) (through_last n es ds (let b = steps_first (Act l a) es in omega arith))

pub through_cpu : (es ds : List Event) → steps_of (Cpu ∷ ds) ≡ 1 → tick_at ds ≡ ds → through_step (steps_of (es ++ Cpu ∷ ds)) (es ++ Cpu ∷ ds) ≡ es ++ Cpu ∷ ds
through_cpu es ds one whole =
    let all = steps_on es (Cpu ∷ ds) in
    let many : steps_of (es ++ Cpu ∷ ds) ≡ suc (steps_of es) = omega arith in
    ap (λ n. through_step n (es ++ Cpu ∷ ds)) many ∙ (through_last (steps_of es) es ds refl ∙ ap (λ (xs : List Event). es ++ Cpu ∷ xs) whole)
