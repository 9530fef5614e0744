-- What is watched in one pass decides both parts of the turn law.
use Rattle.std.specs.Prelude.{◌≡◌, ℕ, zero, suc, ◌+◌, ◌<◌, ◌≤◌, Bool, true, false, not, ◌&&◌, ◌||◌, ◌∷◌, [], List, length, map, replicate, Option, Some, None, refl, nat_eq, slice_index_or, ◌↔◌}
use Rattle.std.specs.List.{enumerate_from, AllByRecursion as Each}
use Rattle.std.proofs.Common.{ap, sym, subst, ◌∙◌, inl, inr, arith, eqb-true, eq-eqb}
use Rattle.std.proofs.lemmas.Bool.{and_from, and_parts, cases_lt}
use Rattle.std.proofs.lemmas.List.{get_or_past, length-map}
use Rattle.spec_schedule.specs.declared.trace.AuditTask.{AuditTask}
use Rattle.spec_schedule.specs.declared.trace.Table.{Table}
use Rattle.spec_schedule.specs.declared.trace.TraceEvent.{TraceEvent}
use Rattle.spec_schedule.specs.Counting.{Counted, uncounted, counted_all, Numbers, unedited, edited_all, CountedEvent, counted_events, counted_events_from, stepping}
use Rattle.spec_schedule.specs.Legal.{is_tick, each_from, keeps_turn, turn_kept, gives_way}
use Rattle.lgx_audit.specs.Along.{IsWithin}
use Rattle.lgx_audit.specs.declared.watch.TurnState.{TurnState}
use Rattle.lgx_audit.specs.Watching.{unwatched, Watching, watch_at, watched, watched_step, watched_all, first_watching, is_unpassed, keeps_turn_now, gives_way_now, passes_from, passes}
use Rattle.spec_legal.proofs.CountedLists.{counts_length}
use Rattle.lgx_audit.proofs.TurnsNow.{kept, kept_nil, owes, others_step, own_step, tick_step}
use Rattle.lgx_audit.proofs.WaysNow.{downs_at}
use Rattle.lgx_audit.proofs.WaysStep.{Asks, Follows, on, back, tick_no_step}

-- ---- each watch after an event

mapped_at : (f : ℕ × TurnState → TurnState) (i : ℕ) (ws : List TurnState) (u : ℕ) → u < length ws → watch_at (map f (enumerate_from i ws)) u ≡ f (i + u, watch_at ws u)
mapped_at f i [] u h = absurd (omega arith)
mapped_at f i (w ∷ ws) zero h = ap (λ n. f (n, w)) (let z : i ≡ i + 0 = omega arith in z)
mapped_at f i (w ∷ ws) (suc u) h = mapped_at f (i + 1) ws u (omega arith) ∙ ap (λ n. f (n, watch_at ws u)) (let z : i + 1 + u ≡ i + suc u = omega arith in z)

mapped_length : (f : ℕ × TurnState → TurnState) (i : ℕ) (ws : List TurnState) → length (map f (enumerate_from i ws)) ≡ length ws
mapped_length f i [] = refl
mapped_length f i (w ∷ ws) = ap suc (mapped_length f (i + 1) ws)

module _ (table : Table) (x : CountedEvent) (cs' : List Counted) (w : Watching) (long : length w.watches ≡ length table.tasks) where
  pub all_long : length (watched_all table x cs' w).watches ≡ length table.tasks
  all_long = mapped_length (λ v. watched table x w.last v.0 (slice_index_or cs' v.0 uncounted) v.1) 0 w.watches ∙ long

  watches_at : (u : ℕ) → u < length table.tasks → watch_at (watched_all table x cs' w).watches u ≡ watched table x w.last u (slice_index_or cs' u uncounted) (watch_at w.watches u)
  watches_at u within =
      mapped_at (λ v. watched table x w.last v.0 (slice_index_or cs' v.0 uncounted) v.1) 0 w.watches u (omega arith)
      ∙ ap (λ n. watched table x w.last n (slice_index_or cs' n uncounted) (watch_at w.watches u)) (let z : 0 + u ≡ u = omega arith in z)

  pub follows : Follows table w (watched_all table x cs' w) x cs'
  follows = record { many = all_long; watches = watches_at; last = refl; way = refl }

-- ---- the second part

pub ways_pass : (table : Table) (w : Watching) (cs : List Counted) (ns : List Numbers) (es : List TraceEvent) → length cs ≡ length table.tasks → length w.watches ≡ length table.tasks → Asks table w cs (counted_events_from table.tasks cs ns es) → each_from (gives_way table) (counted_events_from table.tasks cs ns es) ≡ true → passes_from gives_way_now table w cs ns es ≡ true
ways_pass table w cs ns [] many long a law = refl
ways_pass table w cs ns (e ∷ es) many long a law =
    let x : CountedEvent = record { tasks = cs; programs = ns; event = e } in
    let cs' = counted_all table.tasks e cs in
    let w' = watched_all table x cs' w in
    let q = and_parts (gives_way table x (counted_events_from table.tasks cs' (edited_all e ns) es)) (each_from (gives_way table) (counted_events_from table.tasks cs' (edited_all e ns) es)) law in
    let r = on table cs ns e es many w w' (follows table x cs' w long) long a q.0 in
    and_from (gives_way_now w x) _ r.0 (ways_pass table w' cs' (edited_all e ns) es (counts_length 0 table.tasks e cs many) (all_long table x cs' w long) r.1 q.1)

pub pass_ways : (table : Table) (w : Watching) (cs : List Counted) (ns : List Numbers) (es : List TraceEvent) → length cs ≡ length table.tasks → length w.watches ≡ length table.tasks → passes_from gives_way_now table w cs ns es ≡ true → Asks table w cs (counted_events_from table.tasks cs ns es) × (each_from (gives_way table) (counted_events_from table.tasks cs ns es) ≡ true)
pass_ways table w cs ns [] many long h = (record { last = λ t k. refl; way = λ t u k await. refl }, refl)
pass_ways table w cs ns (e ∷ es) many long h =
    let x : CountedEvent = record { tasks = cs; programs = ns; event = e } in
    let cs' = counted_all table.tasks e cs in
    let w' = watched_all table x cs' w in
    let q = and_parts (gives_way_now w x) (passes_from gives_way_now table w' cs' (edited_all e ns) es) h in
    let r = pass_ways table w' cs' (edited_all e ns) es (counts_length 0 table.tasks e cs many) (all_long table x cs' w long) q.1 in
    let s = back table cs ns e es many w w' (follows table x cs' w long) long q.0 r.0 in
    (s.0, and_from (gives_way table x (counted_events_from table.tasks cs' (edited_all e ns) es)) _ s.1 r.1)

-- ---- the first part

abbrev Owes : Table → Watching → List Counted → List CountedEvent → Type 0
Owes table w cs ys = (t : ℕ) → owes table t (downs_at cs t) (watch_at w.watches t) ys ≡ true

abbrev now : Watching → CountedEvent → Bool
now w x = keeps_turn_now w.watches x

module _ (table : Table) (cs : List Counted) (ns : List Numbers) (e : TraceEvent) (es : List TraceEvent) (w : Watching) (long : length w.watches ≡ length table.tasks) (within : IsWithin (length table.tasks) e) where
  abbrev x : CountedEvent
  x = record { tasks = cs; programs = ns; event = e }

  abbrev cs' : List Counted
  cs' = counted_all table.tasks e cs

  abbrev ys : List CountedEvent
  ys = counted_events_from table.tasks cs' (edited_all e ns) es

  abbrev w' : Watching
  w' = watched_all table x cs' w

  abbrev keeps : ℕ → Bool
  keeps t = nat_eq (downs_at cs t) (downs_at cs' t)

  -- what isn't in the table isn't watched
  owes_past : (v : Watching) (t d : ℕ) (zs : List CountedEvent) → length v.watches ≡ length table.tasks → length table.tasks ≤ t → owes table t d (watch_at v.watches t) zs ≡ true
  owes_past v t d zs l past = rw (get_or_past v.watches t unwatched (let m = l in omega arith)) refl

  watch_step : (t : ℕ) → t < length table.tasks → is_tick e ≡ false → watch_at w'.watches t ≡ watched_step table t (stepping e) (keeps t) (watch_at w.watches t)
  watch_step t l no_tick = (follows table x cs' w long).watches t l ∙ rw no_tick refl

  owes_tick : (t : ℕ) → is_tick e ≡ true → owes table t (downs_at cs' t) (watch_at w'.watches t) ys ≡ true
  owes_tick t tick = elim (cases_lt t (length table.tasks)) [
    | inl l ↦ ap (λ v. owes table t (downs_at cs' t) v ys) ((follows table x cs' w long).watches t l) ∙ rw tick refl
    | inr past ↦ owes_past w' t (downs_at cs' t) ys (all_long table x cs' w long) past
  ]

  -- a task whose step it isn't
  other_same : (t : ℕ) → is_tick e ≡ false → (stepping e ≡ Some t → ⊥) → owes table t (downs_at cs t) (watch_at w.watches t) (x ∷ ys) ≡ owes table t (downs_at cs' t) (watch_at w'.watches t) ys
  other_same t no_tick ne = elim (cases_lt t (length table.tasks)) [
    | inl l ↦ others_step table t table.tasks cs ns e es (watch_at w.watches t) no_tick ne ∙ ap (λ v. owes table t (downs_at cs' t) v ys) (sym (watch_step t l no_tick))
    | inr past ↦ owes_past w t (downs_at cs t) (x ∷ ys) long past ∙ sym (owes_past w' t (downs_at cs' t) ys (all_long table x cs' w long) past)
  ]

  own_same : (t : ℕ) → is_tick e ≡ false → stepping e ≡ Some t → (owes table t (downs_at cs t) (watch_at w.watches t) (x ∷ ys) && keeps_turn table x ys) ≡ (not ((watch_at w.watches t).stepped && (watch_at w.watches t).passed) && owes table t (downs_at cs' t) (watch_at w'.watches t) ys)
  own_same t no_tick own =
      own_step table t table.tasks cs ns e es (watch_at w.watches t) no_tick own
      ∙ ap (λ v. not ((watch_at w.watches t).stepped && (watch_at w.watches t).passed) && owes table t (downs_at cs' t) v ys) (sym (watch_step t (within t own) no_tick))

  step_no_tick : (t : ℕ) → stepping e ≡ Some t → is_tick e ≡ false
  step_no_tick t own = go (is_tick e) refl
    where
      go : (b : Bool) → is_tick e ≡ b → is_tick e ≡ false
      go false is = is
      go true is = absurd (let k : None ≡ Some t = sym (tick_no_step e is) ∙ own in cc k)

  pub turn_on : Owes table w cs (x ∷ ys) → keeps_turn table x ys ≡ true → (now w x ≡ true) × Owes table w' cs' ys
  turn_on o law = go (stepping e) refl
    where
      rest : (t : ℕ) → (stepping e ≡ Some t → ⊥) → owes table t (downs_at cs' t) (watch_at w'.watches t) ys ≡ true
      rest t ne = by_tick (is_tick e) refl
        where
          by_tick : (b : Bool) → is_tick e ≡ b → owes table t (downs_at cs' t) (watch_at w'.watches t) ys ≡ true
          by_tick true is = owes_tick t is
          by_tick false is = sym (other_same t is ne) ∙ o t

      go : (s : Option ℕ) → stepping e ≡ s → (is_unpassed w.watches s ≡ true) × Owes table w' cs' ys
      go None is = (refl, λ t. rest t (λ k. let n : None ≡ Some t = sym is ∙ k in cc n))
      go (Some v) is =
          let q = and_parts (not ((watch_at w.watches v).stepped && (watch_at w.watches v).passed)) (owes table v (downs_at cs' v) (watch_at w'.watches v) ys) (sym (own_same v (step_no_tick v is) is) ∙ and_from _ _ (o v) law) in
          (q.0, λ t. by_same t (nat_eq v t) refl q.1)
        where
          by_same : (t : ℕ) (b : Bool) → nat_eq v t ≡ b → owes table v (downs_at cs' v) (watch_at w'.watches v) ys ≡ true → owes table t (downs_at cs' t) (watch_at w'.watches t) ys ≡ true
          by_same t true e' k = subst (λ n. owes table n (downs_at cs' n) (watch_at w'.watches n) ys ≡ true) (eqb-true v t e') k
          by_same t false e' k = rest t (λ own. let n : Some v ≡ Some t = sym is ∙ own in let m : v ≡ t = cc n in absurd (let f : false ≡ true = sym e' ∙ eq-eqb v t m in cc f))

  pub turn_back : now w x ≡ true → Owes table w' cs' ys → Owes table w cs (x ∷ ys) × (keeps_turn table x ys ≡ true)
  turn_back here o = go (stepping e) refl here
    where
      rest : (t : ℕ) → (stepping e ≡ Some t → ⊥) → owes table t (downs_at cs t) (watch_at w.watches t) (x ∷ ys) ≡ true
      rest t ne = by_tick (is_tick e) refl
        where
          by_tick : (b : Bool) → is_tick e ≡ b → owes table t (downs_at cs t) (watch_at w.watches t) (x ∷ ys) ≡ true
          by_tick true is = tick_step table t table.tasks cs ns e es (watch_at w.watches t) is
          by_tick false is = other_same t is ne ∙ o t

      go : (s : Option ℕ) → stepping e ≡ s → is_unpassed w.watches s ≡ true → Owes table w cs (x ∷ ys) × (turn_kept table x ys s ≡ true)
      go None is k = ((λ t. rest t (λ own. let n : None ≡ Some t = sym is ∙ own in cc n)), refl)
      go (Some v) is k =
          let q = and_parts (owes table v (downs_at cs v) (watch_at w.watches v) (x ∷ ys)) (keeps_turn table x ys) (own_same v (step_no_tick v is) is ∙ and_from _ _ k (o v)) in
          ((λ t. by_same t (nat_eq v t) refl q.0), subst (λ s. turn_kept table x ys s ≡ true) is q.1)
        where
          by_same : (t : ℕ) (b : Bool) → nat_eq v t ≡ b → owes table v (downs_at cs v) (watch_at w.watches v) (x ∷ ys) ≡ true → owes table t (downs_at cs t) (watch_at w.watches t) (x ∷ ys) ≡ true
          by_same t true e' k = subst (λ n. owes table n (downs_at cs n) (watch_at w.watches n) (x ∷ ys) ≡ true) (eqb-true v t e') k
          by_same t false e' k = rest t (λ own. let n : Some v ≡ Some t = sym is ∙ own in let m : v ≡ t = cc n in absurd (let f : false ≡ true = sym e' ∙ eq-eqb v t m in cc f))

-- ---- along a trace

abbrev Within : Table → List TraceEvent → Type 0
Within table es = Each (IsWithin (length table.tasks)) es

pub turns_pass : (table : Table) (w : Watching) (cs : List Counted) (ns : List Numbers) (es : List TraceEvent) → length w.watches ≡ length table.tasks → Within table es → Owes table w cs (counted_events_from table.tasks cs ns es) → each_from (keeps_turn table) (counted_events_from table.tasks cs ns es) ≡ true → passes_from now table w cs ns es ≡ true
turns_pass table w cs ns [] long within o law = refl
turns_pass table w cs ns (e ∷ es) long within o law =
    let x : CountedEvent = record { tasks = cs; programs = ns; event = e } in
    let cs' = counted_all table.tasks e cs in
    let q = and_parts (keeps_turn table x (counted_events_from table.tasks cs' (edited_all e ns) es)) (each_from (keeps_turn table) (counted_events_from table.tasks cs' (edited_all e ns) es)) law in
    let r = turn_on table cs ns e es w long within.0 o q.0 in
    and_from (now w x) _ r.0 (turns_pass table (watched_all table x cs' w) cs' (edited_all e ns) es (all_long table x cs' w long) within.1 r.1 q.1)

pub pass_turns : (table : Table) (w : Watching) (cs : List Counted) (ns : List Numbers) (es : List TraceEvent) → length w.watches ≡ length table.tasks → Within table es → passes_from now table w cs ns es ≡ true → Owes table w cs (counted_events_from table.tasks cs ns es) × (each_from (keeps_turn table) (counted_events_from table.tasks cs ns es) ≡ true)
pass_turns table w cs ns [] long within h = ((λ t. always (watch_at w.watches t).stepped (watch_at w.watches t).passed t), refl)
  where
    always : (s p : Bool) (t : ℕ) → (not s || kept t p []) ≡ true
    always true p t = kept_nil t p
    always false p t = refl
pass_turns table w cs ns (e ∷ es) long within h =
    let x : CountedEvent = record { tasks = cs; programs = ns; event = e } in
    let cs' = counted_all table.tasks e cs in
    let w' = watched_all table x cs' w in
    let q = and_parts (now w x) (passes_from now table w' cs' (edited_all e ns) es) h in
    let r = pass_turns table w' cs' (edited_all e ns) es (all_long table x cs' w long) within.1 q.1 in
    let s = turn_back table cs ns e es w long within.0 q.0 r.0 in
    (s.0, and_from (keeps_turn table x (counted_events_from table.tasks cs' (edited_all e ns) es)) _ s.1 r.1)

module _ (table : Table) (trace : List TraceEvent) where
  abbrev cs : List Counted
  cs = map (λ d. uncounted) table.tasks

  abbrev ns : List Numbers
  ns = replicate table.programs unedited

  many : length cs ≡ length table.tasks
  many = length-map table.tasks (λ (d : AuditTask). uncounted)

  long : length (first_watching table).watches ≡ length table.tasks
  long = length-map table.tasks (λ (d : AuditTask). unwatched)

  unwatched_at : (ds : List AuditTask) (t : ℕ) → watch_at (map (λ d. unwatched) ds) t ≡ unwatched
  unwatched_at [] t = refl
  unwatched_at (d ∷ ds) zero = refl
  unwatched_at (d ∷ ds) (suc t) = unwatched_at ds t

  owes_first : Owes table (first_watching table) cs (counted_events table trace)
  owes_first t = ap (λ v. owes table t (downs_at cs t) v (counted_events table trace)) (unwatched_at table.tasks t)

  asks_first : Asks table (first_watching table) cs (counted_events table trace)
  asks_first = record { last = λ t k. absurd (no_task t k); way = λ t u k await. absurd (no_task t k) }
    where
      no_task : (t : ℕ) → None ≡ Some t → ⊥
      no_task t k = cc k

  -- the law between ticks holds of a trace exactly if each event passes its test
  pub turns_decided : Within table trace → (passes now table trace ≡ true) ↔ (each_from (keeps_turn table) (counted_events table trace) ≡ true)
  turns_decided within = (
    (λ h. (pass_turns table (first_watching table) cs ns trace long within h).1),
    (λ h. turns_pass table (first_watching table) cs ns trace long within owes_first h),
  )

  -- and so does the law over ticks
  pub ways_decided : (passes gives_way_now table trace ≡ true) ↔ (each_from (gives_way table) (counted_events table trace) ≡ true)
  ways_decided = (
    (λ h. (pass_ways table (first_watching table) cs ns trace many long h).1),
    (λ h. ways_pass table (first_watching table) cs ns trace many long asks_first h),
  )
