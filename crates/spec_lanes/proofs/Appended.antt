-- A journal with more events after it: counts, lanes and answers.
use Rattle.std.proofs.Common.{◌≡◌, ℕ, ◌+◌, ◌<◌, ◌≤◌, Bool, true, false, cond, not, List, [], ◌∷◌, ◌++◌, length, get_or, take, drop, map, refl, sym, ◌∙◌, ap, subst, arith}
use Rattle.std.specs.Prelude.{nat_eq}
use Rattle.std.specs.List.{AllZip, list_all}
use Rattle.std.proofs.lemmas.Bool.{and_from, eq-eqb, ne_eqb}
use Rattle.std.proofs.lemmas.List.{append-nil, map-append, take_more, drop-append-le, take-append-le}
use Rattle.std.proofs.lemmas.List.Folds.{list_all-append}
use Rattle.std.proofs.lemmas.List.Sums.{sum_by-append, sum_by-cons}
use Rattle.spec_machine.specs.declared.event.Action.{Action}
use Rattle.spec_machine.specs.declared.event.Event.{Event}
use Rattle.spec_machine.specs.declared.event.Event.TheVariants.{Cpu, Tick, Act}
use Rattle.spec_machine.specs.Events.{is_step, is_tick, steps_of}
use Rattle.spec_machine.specs.Project.{Project}
use Rattle.spec_machine.specs.State.{State, start}
use Rattle.spec_machine.specs.Machine.{TraceEntry, step, run_from, trace_from, run, trace}
use Rattle.spec_text.specs.declared.script.Timed.{Timed}
use Rattle.spec_schedule.specs.Partial.{Made, made_if, made_by, LaneDid, is_held, is_of_lane}
use Rattle.spec_lanes.specs.Turns.{ticks_of}

-- ---- steps and ticks

pub steps_on : (xs ys : List Event) → steps_of (xs ++ ys) ≡ steps_of xs + steps_of ys
steps_on xs ys = sum_by-append (λ e. cond (is_step e) 1 0) xs ys

pub steps_first : (e : Event) (es : List Event) → steps_of (e ∷ es) ≡ cond (is_step e) 1 0 + steps_of es
steps_first e es = sum_by-cons (λ e. cond (is_step e) 1 0) e es

pub ticks_on : (xs ys : List Event) → ticks_of (xs ++ ys) ≡ ticks_of xs + ticks_of ys
ticks_on xs ys = sum_by-append (λ e. cond (is_tick e) 1 0) xs ys

pub ticks_first : (e : Event) (es : List Event) → ticks_of (e ∷ es) ≡ cond (is_tick e) 1 0 + ticks_of es
ticks_first e es = sum_by-cons (λ e. cond (is_tick e) 1 0) e es

-- ---- what a lane does

made_if_on : (b : Bool) (a : Action) (n : ℕ) (xs ys : List Made) → made_if b a n (xs ++ ys) ≡ made_if b a n xs ++ ys
made_if_on true a n xs ys = refl
made_if_on false a n xs ys = refl

pub made_on : (lane n : ℕ) (es ds : List Event) → made_by lane n (es ++ ds) ≡ made_by lane n es ++ made_by lane (n + ticks_of es) ds
made_on lane n [] ds = ap (λ k. made_by lane k ds) (let e : n ≡ n + 0 = omega arith in e)
made_on lane n (Cpu ∷ es) ds =
    let same : n + ticks_of es ≡ n + ticks_of (Cpu ∷ es) = (let a = ticks_first Cpu es in omega arith) in
    made_on lane n es ds ∙ ap (λ k. made_by lane n es ++ made_by lane k ds) same
made_on lane n (Tick ∷ es) ds =
    let same : n + 1 + ticks_of es ≡ n + ticks_of (Tick ∷ es) = (let a = ticks_first Tick es in omega arith) in
    made_on lane (n + 1) es ds ∙ ap (λ k. made_by lane (n + 1) es ++ made_by lane k ds) same
made_on lane n (Act l a ∷ es) ds =
    let same : n + ticks_of es ≡ n + ticks_of (Act l a ∷ es) = (let b = ticks_first (Act l a) es in omega arith) in
    ap (made_if (nat_eq l lane) a n) (made_on lane n es ds ∙ ap (λ k. made_by lane n es ++ made_by lane k ds) same)
    ∙ made_if_on (nat_eq l lane) a n (made_by lane n es) (made_by lane (n + ticks_of (Act l a ∷ es)) ds)

-- events without an action of the lane leave what it did
pub made_same : (lane : ℕ) (es ds : List Event) → made_by lane (ticks_of es) ds ≡ [] → made_by lane 0 (es ++ ds) ≡ made_by lane 0 es
made_same lane es ds none =
    made_on lane 0 es ds
    ∙ (ap (λ k. made_by lane 0 es ++ made_by lane k ds) (let e : 0 + ticks_of es ≡ ticks_of es = omega arith in e)
    ∙ (ap (λ (ms : List Made). made_by lane 0 es ++ ms) none ∙ append-nil (made_by lane 0 es)))

pub made_other : (lane l : ℕ) (a : Action) (es : List Event) → (l ≡ lane → ⊥) → made_by lane 0 (es ++ Act l a ∷ []) ≡ made_by lane 0 es
made_other lane l a es ne = made_same lane es (Act l a ∷ []) (ap (λ b. made_if b a (ticks_of es) []) (ne_eqb l lane ne))

-- what it did now, and at which tick
abbrev pub made_now : Action → ℕ → Made
made_now a n = record { action = a; ticks = n }

pub made_own : (lane : ℕ) (a : Action) (es : List Event) → made_by lane 0 (es ++ Act lane a ∷ []) ≡ made_by lane 0 es ++ made_now a (ticks_of es) ∷ []
made_own lane a es =
    made_on lane 0 es (Act lane a ∷ [])
    ∙ (ap (λ k. made_by lane 0 es ++ made_by lane k (Act lane a ∷ [])) (let e : 0 + ticks_of es ≡ ticks_of es = omega arith in e)
    ∙ ap (λ b. made_by lane 0 es ++ made_if b a (ticks_of es) []) (eq-eqb lane lane refl))

-- ---- what a lane did stays

pub did_same : (journal more : List Event) (lane count : ℕ) (list : List Timed) → made_by lane 0 more ≡ made_by lane 0 journal → LaneDid journal lane count list → LaneDid more lane count list
did_same journal more lane count list same h = record {
  enough = h.enough;
  order = ap (map (λ (m : Made). m.action)) same ∙ h.order;
  due = subst (λ (ms : List Made). AllZip (λ m t. t.at ≤ m.ticks) ms (take count list)) (sym same) h.due;
}

zip_push : {A B : Type 0} (R : A → B → Type 0) (xs : List A) (ys : List B) (x : A) (y : B) → AllZip R xs ys → R x y → AllZip R (xs ++ x ∷ []) (ys ++ y ∷ [])
zip_push R [] [] x y h r = (r, tt)
zip_push R [] (b ∷ bs) x y h r = absurd h
zip_push R (a ∷ rest) [] x y h r = absurd h
zip_push R (a ∷ rest) (b ∷ bs) x y h r = (h.0, zip_push R rest bs x y h.1 r)

-- one more action of the lane, the next of its list, whose tick has come
pub did_next : (journal : List Event) (lane count : ℕ) (list : List Timed) (t : Timed) → LaneDid journal lane count list → count < length list → get_or list count t ≡ t → t.at ≤ ticks_of journal → LaneDid (journal ++ Act lane t.action ∷ []) lane (count + 1) list
did_next journal lane count list t h lt here due =
    let made = made_own lane t.action journal in
    let taken : take (count + 1) list ≡ take count list ++ t ∷ [] = take_more list count t lt ∙ ap (λ (x : Timed). take count list ++ x ∷ []) here in
    let order : map (λ (m : Made). m.action) (made_by lane 0 journal ++ made_now t.action (ticks_of journal) ∷ []) ≡ map (λ (x : Timed). x.action) (take count list ++ t ∷ []) =
    map-append (λ (m : Made). m.action) (made_by lane 0 journal) (made_now t.action (ticks_of journal) ∷ [])
    ∙ (ap (λ (acts : List Action). acts ++ t.action ∷ []) h.order ∙ sym (map-append (λ (x : Timed). x.action) (take count list) (t ∷ []))) in
    let zipped = zip_push (λ m x. x.at ≤ m.ticks) (made_by lane 0 journal) (take count list) (made_now t.action (ticks_of journal)) t h.due due in
    record {
      enough = omega arith;
      order = ap (map (λ (m : Made). m.action)) made ∙ (order ∙ ap (map (λ (x : Timed). x.action)) (sym taken));
      due = subst (λ (ms : List Made). AllZip (λ m x. x.at ≤ m.ticks) ms (take (count + 1) list)) (sym made)
          (subst (λ (ts : List Timed). AllZip (λ m x. x.at ≤ m.ticks) (made_by lane 0 journal ++ made_now t.action (ticks_of journal) ∷ []) ts) (sym taken) zipped);
    }

-- ---- answers

pub run_over : (s : State) (xs ys : List Event) → run_from s (xs ++ ys) ≡ run_from (run_from s xs) ys
run_over s [] ys = refl
run_over s (x ∷ xs) ys = run_over (step s x).state xs ys

trace_over : (s : State) (xs ys : List Event) → trace_from s (xs ++ ys) ≡ trace_from s xs ++ trace_from (run_from s xs) ys
trace_over s [] ys = refl
trace_over s (x ∷ xs) ys = ap (λ (es : List TraceEntry). (step s x).answer ∷ es) (trace_over (step s x).state xs ys)

-- no answer is Held, if none was and none of the events after it is
pub answers_on : (p : Project) (es ds : List Event) → list_all (λ x. not (is_held x)) (trace p es) ≡ true → list_all (λ x. not (is_held x)) (trace_from (run p es) ds) ≡ true → list_all (λ x. not (is_held x)) (trace p (es ++ ds)) ≡ true
answers_on p es ds before after =
    ap (list_all (λ x. not (is_held x))) (trace_over (start p) es ds)
    ∙ (list_all-append (λ x. not (is_held x)) (trace p es) (trace_from (run p es) ds) ∙ and_from _ _ before after)

-- ---- the lanes of the events

pub some_events : (es : List Event) (e : Event) → take 1 es ≡ e ∷ [] → 1 ≤ length es
some_events [] e h = absurd (cc h)
some_events (x ∷ es) e h = omega arith

pub opens_on : (es ds : List Event) (e : Event) → take 1 es ≡ e ∷ [] → take 1 (es ++ ds) ≡ e ∷ []
opens_on es ds e h = take-append-le 1 es ds (some_events es e h) ∙ h

pub lanes_on : (lanes : ℕ) (es ds : List Event) (e : Event) → take 1 es ≡ e ∷ [] → list_all (is_of_lane lanes) (drop 1 es) ≡ true → list_all (is_of_lane lanes) ds ≡ true → list_all (is_of_lane lanes) (drop 1 (es ++ ds)) ≡ true
lanes_on lanes es ds e opens before after =
    ap (list_all (is_of_lane lanes)) (drop-append-le 1 es ds (some_events es e opens))
    ∙ (list_all-append (is_of_lane lanes) (drop 1 es) ds ∙ and_from _ _ before after)
