-- The second part of the turn law in one pass: one event on.
use Rattle.std.specs.Prelude.{◌≡◌, ℕ, suc, ◌<◌, Bool, true, false, not, ◌&&◌, ◌||◌, ◌∷◌, [], List, length, Option, Some, None, refl, nat_eq, if◌then◌else◌, slice_index_or}
use Rattle.std.specs.List.{list_any}
use Rattle.std.proofs.Common.{ap, sym, subst, ◌∙◌, inl, inr, arith, eqb-true, eq-eqb}
use Rattle.std.proofs.lemmas.Bool.{and_from, and_parts, not-true, not_from_false, eqb-false, false≢true, false_from_ne_true, cases_lt}
use Rattle.std.proofs.lemmas.List.{get_or_past}
use Rattle.std.proofs.lemmas.List.Folds.{list_any_at}
use Rattle.spec_schedule.specs.declared.trace.Table.{Table}
use Rattle.spec_schedule.specs.declared.trace.TraceEvent.{TraceEvent}
use Rattle.spec_schedule.specs.declared.trace.TraceEvent.TheVariants.{Idle, Began, Step, Left, Tick, Act}
use Rattle.spec_schedule.specs.Counting.{Counted, uncounted, counted_all, Numbers, edited_all, is_open, CountedEvent, counted_events_from, is_task, stepping, steps_here}
use Rattle.spec_schedule.specs.Legal.{priority_of, at, higher_up, is_tick, is_action, gives_turn, way_given, gives_way}
use Rattle.lgx_audit.specs.declared.watch.TurnState.{TurnState}
use Rattle.lgx_audit.specs.Watching.{unwatched, Watching, watch_at, stays, gives_at, is_rival_of, watched, watched_step, stays_last, last_after, way_after, awaits_none, gives_way_now}
use Rattle.spec_legal.proofs.CountedLists.{counts_length}
use Rattle.lgx_audit.proofs.WaysNow.{downs_at, downs_grow, yields, yields_cons, yields_gone, gives_each, each_gives, may_pass, law_is, pass_action, pass_other, pass_gone}

-- what is asked of the places from here on
pub record Asks (table : Table) (w : Watching) (cs : List Counted) (ys : List CountedEvent) : Type 0 where
  pub last : (t : ℕ) → w.last ≡ Some t → may_pass table t (downs_at cs t) ys ≡ true
  pub way : (t u : ℕ) → w.way ≡ Some t → (watch_at w.watches u).awaited ≡ true → yields t u (downs_at cs u) ys ≡ true

-- what the event makes of what is watched
pub record Follows (table : Table) (w w' : Watching) (y : CountedEvent) (cs' : List Counted) : Type 0 where
  pub many : length w'.watches ≡ length table.tasks
  pub watches : (u : ℕ) → u < length table.tasks → watch_at w'.watches u ≡ watched table y w.last u (slice_index_or cs' u uncounted) (watch_at w.watches u)
  pub last : w'.last ≡ last_after y cs' w.last
  pub way : w'.way ≡ way_after table y w.last w.way

-- an awaited task is one of the table
awaited_within : (ws : List TurnState) (u : ℕ) → (watch_at ws u).awaited ≡ true → u < length ws
awaited_within ws u h = elim (cases_lt u (length ws)) [
  | inl within ↦ within
  | inr past ↦ absurd (false≢true (sym (ap (λ (v : TurnState). v.awaited) (get_or_past ws u unwatched past)) ∙ h))
]

awaited_any : (ws : List TurnState) (u : ℕ) → (watch_at ws u).awaited ≡ true → list_any (λ v. v.awaited) ws ≡ true
awaited_any ws u h = list_any_at (λ v. v.awaited) ws u unwatched (awaited_within ws u h) h

any_awaited : (ws : List TurnState) → list_any (λ v. v.awaited) ws ≡ true → (u : ℕ) × ((watch_at ws u).awaited ≡ true)
any_awaited [] h = absurd (false≢true h)
any_awaited (w ∷ ws) h = go w.awaited refl h (any_awaited ws)
  where
    go : (b : Bool) → w.awaited ≡ b → (b || list_any (λ v. v.awaited) ws) ≡ true → (list_any (λ v. v.awaited) ws ≡ true → (u : ℕ) × ((watch_at ws u).awaited ≡ true)) → (u : ℕ) × ((watch_at (w ∷ ws) u).awaited ≡ true)
    go true is h rest = (0, is)
    go false is h rest = let r = rest h in (suc r.0, r.1)

-- ---- kinds of events

step_no_action : (e : TraceEvent) (t : ℕ) → stepping e ≡ Some t → is_action e ≡ false
step_no_action (Act lane verb g answer r) t h = absurd (cc h)
step_no_action _ t h = refl

tick_no_action : (e : TraceEvent) → is_tick e ≡ true → is_action e ≡ false
tick_no_action (Act lane verb g answer r) h = absurd (cc h)
tick_no_action _ h = refl

pub tick_no_step : (e : TraceEvent) → is_tick e ≡ true → stepping e ≡ None
tick_no_step (Tick r o w) h = refl
tick_no_step Idle h = refl
tick_no_step (Act lane verb g answer r) h = refl
tick_no_step (Began t g v) h = absurd (cc h)
tick_no_step (Step t g m f) h = absurd (cc h)
tick_no_step (Left t g ended) h = absurd (cc h)

gives_of : (table : Table) (y : CountedEvent) (last : Option ℕ) (t : ℕ) → gives_at table y last ≡ Some t → (last ≡ Some t) × ((not (is_open (at y t)) && not (higher_up table y t)) ≡ true)
gives_of table y None t h = absurd (cc h)
gives_of table y (Some v) t h = go (not (is_open (at y v)) && not (higher_up table y v)) refl h
  where
    go : (b : Bool) → (not (is_open (at y v)) && not (higher_up table y v)) ≡ b → (if b then Some v else None) ≡ Some t → (Some v ≡ Some t) × ((not (is_open (at y t)) && not (higher_up table y t)) ≡ true)
    go true is k = let same : v ≡ t = cc k in (k, subst (λ n. (not (is_open (at y n)) && not (higher_up table y n)) ≡ true) same is)
    go false is k = absurd (cc k)

pull : (b g : Bool) → b ≡ true → (not b || g) ≡ true → g ≡ true
pull true g is h = h
pull false g is h = absurd (false≢true is)

module _ (table : Table) (cs : List Counted) (ns : List Numbers) (e : TraceEvent) (es : List TraceEvent) (many : length cs ≡ length table.tasks) where
  abbrev y : CountedEvent
  y = record { tasks = cs; programs = ns; event = e }

  abbrev cs' : List Counted
  cs' = counted_all table.tasks e cs

  abbrev ys : List CountedEvent
  ys = counted_events_from table.tasks cs' (edited_all e ns) es

  abbrev keeps : ℕ → Bool
  keeps u = stays (slice_index_or cs u uncounted) (slice_index_or cs' u uncounted)

  many' : length cs' ≡ length table.tasks
  many' = counts_length 0 table.tasks e cs many

  went : (u : ℕ) → keeps u ≡ false → downs_at cs u < downs_at cs' u
  went u k =
      let g = downs_grow table.tasks e cs u many in
      let ne = eqb-false (downs_at cs u) (downs_at cs' u) k in
      elim (cases_lt (downs_at cs u) (downs_at cs' u)) [ inl l ↦ l | inr ge ↦ absurd (ne (omega arith)) ]

  -- what t yields to u from the next place on, seen from this one
  yields_on : (t u : ℕ) → keeps u ≡ true → yields t u (downs_at cs' u) ys ≡ yields t u (downs_at cs u) ys
  yields_on t u k = ap (λ d. yields t u d ys) (sym (eqb-true (downs_at cs u) (downs_at cs' u) k))

  pass_on : (t : ℕ) → keeps t ≡ true → may_pass table t (downs_at cs' t) ys ≡ may_pass table t (downs_at cs t) ys
  pass_on t k = ap (λ d. may_pass table t d ys) (sym (eqb-true (downs_at cs t) (downs_at cs' t) k))

  last_kept : (last : Option ℕ) (t : ℕ) → stays_last cs cs' last ≡ Some t → (last ≡ Some t) × (keeps t ≡ true)
  last_kept None t h = absurd (cc h)
  last_kept (Some v) t h = go (keeps v) refl h
    where
      go : (b : Bool) → keeps v ≡ b → (if b then Some v else None) ≡ Some t → (Some v ≡ Some t) × (keeps t ≡ true)
      go true k is = let same : v ≡ t = cc is in (is, subst (λ n. keeps n ≡ true) same k)
      go false k is = absurd (cc is)

  kept_last : (t : ℕ) → keeps t ≡ true → stays_last cs cs' (Some t) ≡ Some t
  kept_last t k = rw k refl

  -- if what is watched of t is kept, what it asks is kept; else nothing is asked
  still_passes : (t : ℕ) → (keeps t ≡ true → may_pass table t (downs_at cs' t) ys ≡ true) → may_pass table t (downs_at cs t) ys ≡ true
  still_passes t h = go (keeps t) refl
    where
      go : (b : Bool) → keeps t ≡ b → may_pass table t (downs_at cs t) ys ≡ true
      go true k = sym (pass_on t k) ∙ h k
      go false k = pass_gone table t (downs_at cs t) table.tasks cs' (edited_all e ns) es many' (went t k)

  still_yields : (t u : ℕ) → (keeps u ≡ true → yields t u (downs_at cs' u) ys ≡ true) → yields t u (downs_at cs u) ys ≡ true
  still_yields t u h = go (keeps u) refl
    where
      go : (b : Bool) → keeps u ≡ b → yields t u (downs_at cs u) ys ≡ true
      go true k = sym (yields_on t u k) ∙ h k
      go false k = yields_gone t u (downs_at cs u) table.tasks cs' (edited_all e ns) es many' (went u k)

  -- here t may step if it has nobody to yield to
  yields_here : (t u : ℕ) → is_tick e ≡ false → yields t u (downs_at cs u) (y ∷ ys) ≡ (not (steps_here e t) && yields t u (downs_at cs u) ys)
  yields_here t u no_tick =
      yields_cons t u (downs_at cs u) y ys
      ∙ rw (no_tick, eq-eqb (downs_at cs u) (downs_at cs u) refl) (go (steps_here e t))
    where
      go : (b : Bool) → ((not b || false) && yields t u (downs_at cs u) ys) ≡ (not b && yields t u (downs_at cs u) ys)
      go true = refl
      go false = refl

  -- nobody is awaited, if t steps here and is to give way
  none_awaited : (w : Watching) (t u : ℕ) → gives_way_now w y ≡ true → stepping e ≡ Some t → w.way ≡ Some t → (watch_at w.watches u).awaited ≡ true → ⊥
  none_awaited w t u now steps way await =
      let k : not (is_task t w.way && list_any (λ v. v.awaited) w.watches) ≡ true = subst (λ o. awaits_none w o ≡ true) steps now in
      false≢true (sym (not-true _ k) ∙ and_from _ _ (ap (is_task t) way ∙ eq-eqb t t refl) (awaited_any w.watches u await))

  -- a step of t
  is_step : (t : ℕ) → (b : Bool) → steps_here e t ≡ b → b ≡ true → stepping e ≡ Some t
  is_step t b is h = go (stepping e) (is ∙ h)
    where
      go : (o : Option ℕ) → is_task t o ≡ true → o ≡ Some t
      go None h = absurd (false≢true h)
      go (Some v) h = ap (λ n. Some n) (eqb-true v t h)

  awaited_step : (w : TurnState) (u : ℕ) (o : Option ℕ) → (watched_step table u o (keeps u) w).awaited ≡ (w.awaited && keeps u)
  awaited_step w u None = refl
  awaited_step w u (Some v) = go (nat_eq v u)
    where
      go : (b : Bool) → (λ (x : TurnState). x.awaited) (if b then record { stepped = keeps u; passed = false; awaited = w.awaited && keeps u } else record { stepped = w.stepped && keeps u; passed = w.passed || nat_eq (priority_of table v) (priority_of table u); awaited = w.awaited && keeps u }) ≡ (w.awaited && keeps u)
      go true = refl
      go false = refl

  module _ (w w' : Watching) (f : Follows table w w' y cs') (long : length w.watches ≡ length table.tasks) where
    -- ---- at no tick

    module _ (no_tick : is_tick e ≡ false) where
      way_same : w'.way ≡ w.way
      way_same = f.way ∙ rw no_tick refl

      awaited_now : (u : ℕ) → u < length table.tasks → (watch_at w'.watches u).awaited ≡ ((watch_at w.watches u).awaited && keeps u)
      awaited_now u within = ap (λ (v : TurnState). v.awaited) (f.watches u within) ∙ (rw no_tick refl ∙ awaited_step (watch_at w.watches u) u (stepping e))

      ways_on : Asks table w cs (y ∷ ys) → (t u : ℕ) → w'.way ≡ Some t → (watch_at w'.watches u).awaited ≡ true → yields t u (downs_at cs' u) ys ≡ true
      ways_on a t u way await =
          let within : u < length table.tasks = (let l = awaited_within w'.watches u await in let m = f.many in omega arith) in
          let q = and_parts (watch_at w.watches u).awaited (keeps u) (sym (awaited_now u within) ∙ await) in
          yields_on t u q.1 ∙ (and_parts (not (steps_here e t)) _ (sym (yields_here t u no_tick) ∙ a.way t u (sym way_same ∙ way) q.0)).1

      ways_back : gives_way_now w y ≡ true → Asks table w' cs' ys → (t u : ℕ) → w.way ≡ Some t → (watch_at w.watches u).awaited ≡ true → yields t u (downs_at cs u) (y ∷ ys) ≡ true
      ways_back now a t u way await =
          yields_here t u no_tick
          ∙ and_from _ _ (not_from_false _ (false_from_ne_true _ (λ s. none_awaited w t u now (is_step t (steps_here e t) refl s) way await)))
          (still_yields t u (λ k. a.way t u (way_same ∙ way) (awaited_now u (let l = awaited_within w.watches u await in omega arith) ∙ and_from _ _ await k)))

      -- nobody steps whom the way is closed to
      free : Asks table w cs (y ∷ ys) → gives_way_now w y ≡ true
      free a = go (stepping e) refl
        where
          go : (o : Option ℕ) → stepping e ≡ o → awaits_none w o ≡ true
          go None is = refl
          go (Some t) is = not_from_false _ (false_from_ne_true _ (λ h.
              let q = and_parts (is_task t w.way) (list_any (λ v. v.awaited) w.watches) h in
              let u = any_awaited w.watches q.1 in
              let way = way_of w.way q.0 in
              let no = (and_parts (not (steps_here e t)) _ (sym (yields_here t u.0 no_tick) ∙ a.way t u.0 way u.1)).0 in
              false≢true (sym (not-true _ no) ∙ (ap (is_task t) is ∙ eq-eqb t t refl))))
            where
              way_of : (o : Option ℕ) → is_task t o ≡ true → o ≡ Some t
              way_of None h = absurd (false≢true h)
              way_of (Some v) h = ap (λ n. Some n) (eqb-true v t h)

      lasts_on : Asks table w cs (y ∷ ys) → gives_way table y ys ≡ true → (t : ℕ) → w'.last ≡ Some t → may_pass table t (downs_at cs' t) ys ≡ true
      lasts_on a law t last =
          let q = last_kept (if is_action e then w.last else stepping e) t (sym (f.last ∙ rw no_tick refl) ∙ last) in
          pass_on t q.1 ∙ go (is_action e) refl q.0
        where
          go : (b : Bool) → is_action e ≡ b → (if b then w.last else stepping e) ≡ Some t → may_pass table t (downs_at cs t) ys ≡ true
          go true is h = sym (pass_action table t (downs_at cs t) y ys is) ∙ a.last t h
          go false is h = sym (law_is table t y ys) ∙ subst (λ o. way_given table y ys o ≡ true) h law

      lasts_back : Asks table w' cs' ys → (t : ℕ) → w.last ≡ Some t → may_pass table t (downs_at cs t) (y ∷ ys) ≡ true
      lasts_back a t last = go (is_action e) refl
        where
          go : (b : Bool) → is_action e ≡ b → may_pass table t (downs_at cs t) (y ∷ ys) ≡ true
          go true is = pass_action table t (downs_at cs t) y ys is ∙ still_passes t (λ k. a.last t (f.last ∙ rw (no_tick, is) (ap (stays_last cs cs') last ∙ kept_last t k)))
          go false is = pass_other table t (downs_at cs t) y ys is ∙ rw no_tick refl

      law_back : Asks table w' cs' ys → gives_way table y ys ≡ true
      law_back a = go (stepping e) refl
        where
          go : (o : Option ℕ) → stepping e ≡ o → way_given table y ys o ≡ true
          go None is = refl
          go (Some t) is = law_is table t y ys ∙ still_passes t (λ k. a.last t (f.last ∙ rw (no_tick, step_no_action e t is) (ap (stays_last cs cs') is ∙ kept_last t k)))

    -- ---- at a tick

    module _ (tick : is_tick e ≡ true) where
      way_now : w'.way ≡ gives_at table y w.last
      way_now = f.way ∙ rw tick refl

      awaited_tick : (u : ℕ) → u < length table.tasks → (watch_at w'.watches u).awaited ≡ ((at y u).up && is_rival_of table u (gives_at table y w.last) && keeps u)
      awaited_tick u within = ap (λ (v : TurnState). v.awaited) (f.watches u within) ∙ rw tick refl

      passes_here : (t : ℕ) → may_pass table t (downs_at cs t) (y ∷ ys) ≡ (not (not (is_open (at y t)) && not (higher_up table y t)) || gives_turn table t y ys)
      passes_here t = pass_other table t (downs_at cs t) y ys (tick_no_action e tick) ∙ rw (tick, eq-eqb (downs_at cs t) (downs_at cs t) refl) refl

      tick_on : Asks table w cs (y ∷ ys) → (t u : ℕ) → w'.way ≡ Some t → (watch_at w'.watches u).awaited ≡ true → yields t u (downs_at cs' u) ys ≡ true
      tick_on a t u way await =
          let within : u < length table.tasks = (let l = awaited_within w'.watches u await in let m = f.many in omega arith) in
          let is : gives_at table y w.last ≡ Some t = sym way_now ∙ way in
          let g = gives_of table y w.last t is in
          let q = and_parts ((at y u).up && is_rival_of table u (gives_at table y w.last)) (keeps u) (sym (awaited_tick u within) ∙ await) in
          let r = and_parts (at y u).up (is_rival_of table u (gives_at table y w.last)) q.0 in
          let given : gives_turn table t y ys ≡ true = pull _ (gives_turn table t y ys) g.1 (sym (passes_here t) ∙ a.last t g.0) in
          yields_on t u q.1 ∙ gives_each table t y many ys given u (record { within = within; up = r.0; other = ap (is_rival_of table u) (sym is) ∙ r.1 })

      tick_back : Asks table w' cs' ys → (t : ℕ) → w.last ≡ Some t → may_pass table t (downs_at cs t) (y ∷ ys) ≡ true
      tick_back a t last = passes_here t ∙ go (not (is_open (at y t)) && not (higher_up table y t)) refl
        where
          go : (b : Bool) → (not (is_open (at y t)) && not (higher_up table y t)) ≡ b → (not b || gives_turn table t y ys) ≡ true
          go false is = refl
          go true is =
              let gives : gives_at table y w.last ≡ Some t = ap (gives_at table y) last ∙ rw is refl in
              each_gives table t y many ys (λ u r. still_yields t u (λ k.
              a.way t u (way_now ∙ gives) (awaited_tick u r.within ∙ and_from _ _ (and_from _ _ r.up (ap (is_rival_of table u) gives ∙ r.other)) k)))

      ways_at : (t u : ℕ) → yields t u (downs_at cs u) (y ∷ ys) ≡ true
      ways_at t u = yields_cons t u (downs_at cs u) y ys ∙ rw tick refl

    -- ---- both

    pub on : Asks table w cs (y ∷ ys) → gives_way table y ys ≡ true → (gives_way_now w y ≡ true) × Asks table w' cs' ys
    on a law = go (is_tick e) refl
      where
        go : (b : Bool) → is_tick e ≡ b → (gives_way_now w y ≡ true) × Asks table w' cs' ys
        go true is = (
          subst (λ o. awaits_none w o ≡ true) (sym (tick_no_step e is)) refl,
          record {
            last = λ t h. absurd (no_last t (sym (f.last ∙ rw is refl) ∙ h));
            way = tick_on is a;
          },
        )
          where
            no_last : (t : ℕ) → None ≡ Some t → ⊥
            no_last t h = cc h
        go false is = (free is a, record { last = lasts_on is a law; way = ways_on is a })

    pub back : gives_way_now w y ≡ true → Asks table w' cs' ys → Asks table w cs (y ∷ ys) × (gives_way table y ys ≡ true)
    back now a = go (is_tick e) refl
      where
        go : (b : Bool) → is_tick e ≡ b → Asks table w cs (y ∷ ys) × (gives_way table y ys ≡ true)
        go true is = (record { last = tick_back is a; way = λ t u way await. ways_at is t u }, ap (way_given table y ys) (tick_no_step e is))
        go false is = (record { last = lasts_back is a; way = ways_back is now a }, law_back is a)
