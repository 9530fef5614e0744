-- The second part of the turn law in one pass.
use Rattle.std.specs.Prelude.{◌≡◌, ℕ, zero, suc, ◌+◌, ◌<◌, ◌≤◌, Bool, true, false, not, cond, ◌&&◌, ◌||◌, ◌∷◌, [], List, length, refl, nat_eq, nat_lt, if◌then◌else◌, slice_index_or}
use Rattle.std.specs.List.{list_any, list_all}
use Rattle.std.proofs.Common.{ap, sym, subst, ◌∙◌, inl, inr, arith}
use Rattle.std.proofs.Math.Numerals.{one-add}
use Rattle.std.proofs.lemmas.Bool.{and_from, and_parts, or_right, not-true, not_from_false, ne_eqb, false≢true, cases_lt}
use Rattle.std.proofs.lemmas.List.Sums.{take_while-cons}
use Rattle.spec_schedule.specs.declared.trace.AuditTask.{AuditTask}
use Rattle.spec_schedule.specs.declared.trace.Table.{Table}
use Rattle.spec_schedule.specs.declared.trace.TraceMark.{TraceMark}
use Rattle.spec_schedule.specs.declared.trace.TraceMark.TheVariants as mark
use Rattle.spec_schedule.specs.declared.trace.TraceEvent.{TraceEvent}
use Rattle.spec_schedule.specs.declared.trace.TraceEvent.TheVariants.{Idle, Began, Step, Left, Tick, Act}
use Rattle.spec_schedule.specs.Counting.{Counted, uncounted, counted, counted_all, Numbers, edited_all, is_open, marked, program_ended, after_last_program, stepped, stops, releases, CountedEvent, counted_tasks, counted_events_from, steps_here}
use Rattle.spec_schedule.specs.Legal.{no_task, priority_of, at, higher_up, is_tick, is_action, before_tick, after_actions, is_other_up, others_went, gives_turn, after_tick}
use Rattle.spec_legal.proofs.CountedLists.{counts_length, count_at, some_passes, passes_some}

-- ---- how often a task has gone down

mark_downs : (m : TraceMark) (c : Counted) → (marked m c).downs ≡ c.downs
mark_downs mark.Up c = refl
mark_downs mark.Down c = refl
mark_downs mark.Sync c = refl
mark_downs mark.SyncEnd c = refl
mark_downs _ c = refl

gone_more : (b : Bool) (n : ℕ) → n ≤ cond b (n + 1) n
gone_more true n = omega arith
gone_more false n = omega arith

last_grows : (d : AuditTask) (c : Counted) → c.downs ≤ (after_last_program d c).downs
last_grows d c = go d.continuous
  where
    go : (b : Bool) → c.downs ≤ (after_last_program (record d { continuous = b }) c).downs
    go true = gone_more c.up c.downs
    go false = gone_more c.up c.downs

ended_grows : (d : AuditTask) (c : Counted) → c.downs ≤ (program_ended d c).downs
ended_grows d c = go (nat_lt (c.ended + 1) d.programs)
  where
    go : (b : Bool) → c.downs ≤ (if b then record c { ended = c.ended + 1; region_count = 0 } else after_last_program d c).downs
    go true = omega arith
    go false = last_grows d c

step_grows : (d : AuditTask) (e : TraceEvent) (c : Counted) → c.downs ≤ (stepped d e c).downs
step_grows d Idle c = omega arith
step_grows d (Began t g v) c = omega arith
step_grows d (Step t g m f) c = let e = mark_downs m c in omega arith
step_grows d (Left t g true) c = ended_grows d c
step_grows d (Left t g false) c = omega arith
step_grows d (Tick r o w) c = omega arith
step_grows d (Act lane verb g answer r) c = omega arith

counted_grows : (d : AuditTask) (t : ℕ) (e : TraceEvent) (c : Counted) → c.downs ≤ (counted d t e c).downs
counted_grows d t e c = go (stops e) (steps_here e t) (releases d e t)
  where
    go : (s h r : Bool) → c.downs ≤ (if s then record { up = false; ended = 0; region_count = 0; cps_open = false; downs = if c.up then c.downs + 1 else c.downs } else (let c' = if h then stepped d e c else c in if r then record c' { up = true; ended = 0 } else c')).downs
    go true h r = gone_more c.up c.downs
    go false true true = step_grows d e c
    go false true false = step_grows d e c
    go false false true = omega arith
    go false false false = omega arith

abbrev pub downs_at : List Counted → ℕ → ℕ
downs_at cs u = (slice_index_or cs u uncounted).downs

past_none : (cs : List Counted) (u : ℕ) → length cs ≤ u → downs_at cs u ≡ 0
past_none [] u h = refl
past_none (c ∷ cs) zero h = absurd (omega arith)
past_none (c ∷ cs) (suc u) h = past_none cs u (omega arith)

pub downs_grow : (ds : List AuditTask) (e : TraceEvent) (cs : List Counted) (u : ℕ) → length cs ≡ length ds → downs_at cs u ≤ downs_at (counted_all ds e cs) u
downs_grow ds e cs u many = elim (cases_lt u (length ds)) [
  | inl within ↦
      (let is = count_at 0 ds e cs u many within in
      let grow = counted_grows (slice_index_or ds u no_task) (0 + u) e (slice_index_or cs u uncounted) in
      let same = ap (λ (c : Counted). c.downs) is in
      omega arith)
  | inr past ↦ (let z = past_none cs u (omega arith) in omega arith)
]

-- ---- what is asked at the steps up to the next tick

-- t steps only after u has gone down once more than d times
abbrev pub yields : ℕ → ℕ → ℕ → List CountedEvent → Bool
yields t u d ys = list_all (λ y. not (steps_here y.event t) || not (nat_eq d (at y u).downs)) (before_tick ys)

pub yields_cons : (t u d : ℕ) (y : CountedEvent) (ys : List CountedEvent) → yields t u d (y ∷ ys) ≡ cond (is_tick y.event) true ((not (steps_here y.event t) || not (nat_eq d (at y u).downs)) && yields t u d ys)
yields_cons t u d y ys =
    ap (list_all (λ y. not (steps_here y.event t) || not (nat_eq d (at y u).downs))) (take_while-cons (λ x. not (is_tick x.event)) y ys)
    ∙ go (is_tick y.event)
  where
    go : (b : Bool) → list_all (λ y. not (steps_here y.event t) || not (nat_eq d (at y u).downs)) (cond (not b) (y ∷ before_tick ys) []) ≡ cond b true ((not (steps_here y.event t) || not (nat_eq d (at y u).downs)) && yields t u d ys)
    go true = refl
    go false = refl

-- u has gone down
pub yields_gone : (t u d : ℕ) (ds : List AuditTask) (cs : List Counted) (ns : List Numbers) (es : List TraceEvent) → length cs ≡ length ds → d < downs_at cs u → yields t u d (counted_events_from ds cs ns es) ≡ true
yields_gone t u d ds cs ns [] many more = refl
yields_gone t u d ds cs ns (e ∷ es) many more =
    yields_cons t u d (record { tasks = cs; programs = ns; event = e }) (counted_events_from ds (counted_all ds e cs) (edited_all e ns) es)
    ∙ go (is_tick e) (yields_gone t u d ds (counted_all ds e cs) (edited_all e ns) es (counts_length 0 ds e cs many) (let g = downs_grow ds e cs u many in omega arith))
  where
    go : (b : Bool) → yields t u d (counted_events_from ds (counted_all ds e cs) (edited_all e ns) es) ≡ true → cond b true ((not (steps_here e t) || not (nat_eq d (downs_at cs u))) && yields t u d (counted_events_from ds (counted_all ds e cs) (edited_all e ns) es)) ≡ true
    go true rest = refl
    go false rest = and_from _ _ (or_right (not (steps_here e t)) _ (not_from_false _ (ne_eqb d (downs_at cs u) (λ k. omega arith)))) rest

-- ---- all others are asked for one by one

-- u was up at place k with t's priority, and isn't t
pub record IsRival (table : Table) (t : ℕ) (k : CountedEvent) (u : ℕ) : Type 0 where
  pub within : u < length table.tasks
  pub up : (at k u).up ≡ true
  pub other : (nat_eq (priority_of table u) (priority_of table t) && not (nat_eq u t)) ≡ true

module _ (table : Table) (t : ℕ) (k : CountedEvent) (many : length k.tasks ≡ length table.tasks) where
  abbrev others : CountedEvent → Bool
  others y = list_any (is_other_up table t k y) (counted_tasks table.tasks k.tasks)

  -- one that is still up is found
  found : (y : CountedEvent) (u : ℕ) → IsRival table t k u → nat_eq (at k u).downs (at y u).downs ≡ true → others y ≡ true
  found y u r same =
      passes_some (is_other_up table t k y) 0 table.tasks k.tasks u many r.within
      (subst (λ n. ((at k u).up && ((nat_eq (priority_of table u) (priority_of table t) && not (nat_eq n t)) && nat_eq (at k n).downs (at y n).downs)) ≡ true) (let z : u ≡ 0 + u = omega arith in z)
      (and_from _ _ r.up (and_from _ _ r.other same)))

  -- and what is found is one
  finds : (y : CountedEvent) → others y ≡ true → (u : ℕ) × IsRival table t k u × (nat_eq (at k u).downs (at y u).downs ≡ true)
  finds y any =
      let s = some_passes (is_other_up table t k y) 0 table.tasks k.tasks any in
      let u = s.place in
      let z : 0 + u ≡ u = omega arith in
      let p = subst (λ n. ((at k u).up && ((nat_eq (priority_of table u) (priority_of table t) && not (nat_eq n t)) && nat_eq (at k n).downs (at y n).downs)) ≡ true) z s.passes in
      let q = and_parts (at k u).up _ p in
      let r = and_parts (nat_eq (priority_of table u) (priority_of table t) && not (nat_eq u t)) (nat_eq (at k u).downs (at y u).downs) q.1 in
      (u, record { within = s.within; up = q.0; other = r.0 }, r.1)

  all_went : (zs : List CountedEvent) → list_all (λ y. not (steps_here y.event t) || others_went table t k y) zs ≡ true → (u : ℕ) → IsRival table t k u → list_all (λ y. not (steps_here y.event t) || not (nat_eq (at k u).downs (at y u).downs)) zs ≡ true
  all_went [] h u r = refl
  all_went (z ∷ zs) h u r =
      let q = and_parts (not (steps_here z.event t) || not (others z)) (list_all (λ y. not (steps_here y.event t) || others_went table t k y) zs) h in
      and_from _ _ (go (steps_here z.event t) (nat_eq (at k u).downs (at z u).downs) refl q.0) (all_went zs q.1 u r)
    where
      go : (s e : Bool) → nat_eq (at k u).downs (at z u).downs ≡ e → (not s || not (others z)) ≡ true → (not s || not e) ≡ true
      go false e is h = refl
      go true false is h = refl
      go true true is h = absurd (false≢true (sym (not-true _ h) ∙ found z u r is))

  went_all : (zs : List CountedEvent) → ((u : ℕ) → IsRival table t k u → list_all (λ y. not (steps_here y.event t) || not (nat_eq (at k u).downs (at y u).downs)) zs ≡ true) → list_all (λ y. not (steps_here y.event t) || others_went table t k y) zs ≡ true
  went_all [] h = refl
  went_all (z ∷ zs) h =
      and_from _ _ (go (steps_here z.event t) (others z) refl (λ u r. (and_parts (not (steps_here z.event t) || not (nat_eq (at k u).downs (at z u).downs)) _ (h u r)).0))
      (went_all zs (λ u r. (and_parts (not (steps_here z.event t) || not (nat_eq (at k u).downs (at z u).downs)) _ (h u r)).1))
    where
      go : (s o : Bool) → others z ≡ o → ((u : ℕ) → IsRival table t k u → (not s || not (nat_eq (at k u).downs (at z u).downs)) ≡ true) → (not s || not o) ≡ true
      go false o is each = refl
      go true false is each = refl
      go true true is each = let f = finds z is in absurd (false≢true (sym (not-true _ (each f.0 f.1)) ∙ f.2))

  -- at tick k: t gives way exactly if it yields to each of them
  pub gives_each : (ys : List CountedEvent) → gives_turn table t k ys ≡ true → (u : ℕ) → IsRival table t k u → yields t u (at k u).downs ys ≡ true
  gives_each ys h u r = all_went (before_tick ys) h u r

  pub each_gives : (ys : List CountedEvent) → ((u : ℕ) → IsRival table t k u → yields t u (at k u).downs ys ≡ true) → gives_turn table t k ys ≡ true
  each_gives ys h = went_all (before_tick ys) h

-- ---- up to the tick after a step

-- what t's last step asks of the places from here on, if t has gone down d times
abbrev pub waits : Table → ℕ → ℕ → List CountedEvent → Bool
waits table t d [] = true
waits table t d (k ∷ ys) = not (is_tick k.event && (nat_eq d (at k t).downs && not (is_open (at k t)) && not (higher_up table k t))) || gives_turn table t k ys

abbrev pub may_pass : Table → ℕ → ℕ → List CountedEvent → Bool
may_pass table t d ys = waits table t d (after_actions ys)

-- it is what the law asks of a step
pub law_is : (table : Table) (t : ℕ) (x : CountedEvent) (ys : List CountedEvent) → after_tick table t x (after_actions ys) ≡ may_pass table t (at x t).downs ys
law_is table t x ys = go (after_actions ys)
  where
    go : (zs : List CountedEvent) → after_tick table t x zs ≡ waits table t (at x t).downs zs
    go [] = refl
    go (z ∷ zs) = refl

pub pass_action : (table : Table) (t d : ℕ) (y : CountedEvent) (ys : List CountedEvent) → is_action y.event ≡ true → may_pass table t d (y ∷ ys) ≡ may_pass table t d ys
pass_action table t d y ys is = rw (is, one-add) refl

pub pass_other : (table : Table) (t d : ℕ) (y : CountedEvent) (ys : List CountedEvent) → is_action y.event ≡ false → may_pass table t d (y ∷ ys) ≡ waits table t d (y ∷ ys)
pass_other table t d y ys is = rw is refl

pub pass_gone : (table : Table) (t d : ℕ) (ds : List AuditTask) (cs : List Counted) (ns : List Numbers) (es : List TraceEvent) → length cs ≡ length ds → d < downs_at cs t → may_pass table t d (counted_events_from ds cs ns es) ≡ true
pass_gone table t d ds cs ns [] many more = refl
pass_gone table t d ds cs ns (e ∷ es) many more =
    go (is_action e) refl (pass_gone table t d ds (counted_all ds e cs) (edited_all e ns) es (counts_length 0 ds e cs many) (let g = downs_grow ds e cs t many in omega arith))
  where
    y : CountedEvent
    y = record { tasks = cs; programs = ns; event = e }

    ys : List CountedEvent
    ys = counted_events_from ds (counted_all ds e cs) (edited_all e ns) es

    here : (b : Bool) → (not (b && (false && not (is_open (at y t)) && not (higher_up table y t))) || gives_turn table t y ys) ≡ true
    here true = refl
    here false = refl

    go : (b : Bool) → is_action e ≡ b → may_pass table t d ys ≡ true → may_pass table t d (y ∷ ys) ≡ true
    go true is rest = pass_action table t d y ys is ∙ rest
    go false is rest =
        pass_other table t d y ys is
        ∙ (ap (λ b. not (is_tick e && (b && not (is_open (at y t)) && not (higher_up table y t))) || gives_turn table t y ys) (ne_eqb d (downs_at cs t) (λ k. omega arith))
        ∙ here (is_tick e))
