-- Tests of each place with those before it, and one event more.
use Rattle.std.proofs.Common.{◌≡◌, ℕ, zero, suc, ◌+◌, ◌<◌, ◌≤◌, Bool, true, false, List, [], ◌∷◌, ◌++◌, length, map, refl, sym, ◌∙◌, ap}
use Rattle.std.specs.Prelude.{slice_index_or, take, drop, ◌&&◌, replicate}
use Rattle.std.specs.List.{list_all}
use Rattle.std.proofs.lemmas.Bool.{and_from, and_parts, and_right}
use Rattle.std.proofs.lemmas.List.{take-take, take-append-drop}
use Rattle.spec_schedule.specs.declared.trace.AuditTask.{AuditTask}
use Rattle.spec_schedule.specs.declared.trace.Table.{Table}
use Rattle.spec_schedule.specs.declared.trace.TraceEvent.{TraceEvent}
use Rattle.spec_schedule.specs.Counting.{Counted, uncounted, counted_all, Numbers, unedited, edited_all, CountedEvent, counted_events, counted_events_from}
use Rattle.spec_laws.specs.CountedBack.{each_with_past}
use Rattle.lgx_audit.specs.Along.{place_after}
use Rattle.lgx_audit.proofs.MoreEvents.{events_more}
use Rattle.lgx_laws.specs.declared.error.Law.{Law}
use Rattle.lgx_laws.specs.Laws.{Roster, keeps_at, keeps}
use Rattle.lgx_laws.specs.Kept.{back, past_after}

-- ---- one place more

and_true : (b : Bool) → (b && true) ≡ b
and_true true = refl
and_true false = refl

and_assoc : (a b c : Bool) → (a && (b && c)) ≡ ((a && b) && c)
and_assoc true b c = refl
and_assoc false b c = refl

back_more : (past xs : List CountedEvent) (x : CountedEvent) → back past (xs ++ x ∷ []) ≡ x ∷ back past xs
back_more past [] x = refl
back_more past (y ∷ xs) x = back_more (y ∷ past) xs x

each_more : (test : List CountedEvent → CountedEvent → Bool) (past xs : List CountedEvent) (x : CountedEvent) → each_with_past test past (xs ++ x ∷ []) ≡ (each_with_past test past xs && test (back past xs) x)
each_more test past [] x = and_true (test past x)
each_more test past (y ∷ xs) x = ap (λ b. test past y && b) (each_more test (y ∷ past) xs x) ∙ and_assoc (test past y) (each_with_past test (y ∷ past) xs) (test (back (y ∷ past) xs) x)

-- a beginning
pub each_front : (test : List CountedEvent → CountedEvent → Bool) (past xs ys : List CountedEvent) → each_with_past test past (xs ++ ys) ≡ true → each_with_past test past xs ≡ true
each_front test past [] ys h = refl
each_front test past (x ∷ xs) ys h =
    let two = and_parts (test past x) (each_with_past test (x ∷ past) (xs ++ ys)) h in
    and_from (test past x) _ two.0 (each_front test (x ∷ past) xs ys two.1)

-- a test that doesn't look back
pub each_alone : (test : CountedEvent → Bool) (past xs : List CountedEvent) → list_all test xs ≡ true → each_with_past (λ past x. test x) past xs ≡ true
each_alone test past [] h = refl
each_alone test past (x ∷ xs) h =
    let two = and_parts (test x) (list_all test xs) h in and_from (test x) _ two.0 (each_alone test (x ∷ past) xs two.1)

-- ---- the places of a trace and of its beginnings

events_front : (ds : List AuditTask) (cs : List Counted) (ns : List Numbers) (es : List TraceEvent) (k : ℕ) → counted_events_from ds cs ns (take k es) ≡ take k (counted_events_from ds cs ns es)
events_front ds cs ns es zero = refl
events_front ds cs ns [] (suc k) = refl
events_front ds cs ns (e ∷ es) (suc k) = ap (λ (xs : List CountedEvent). record { tasks = cs; programs = ns; event = e } ∷ xs) (events_front ds (counted_all ds e cs) (edited_all e ns) es k)

pub events_take : (table : Table) (trace : List TraceEvent) (k : ℕ) → counted_events table (take k trace) ≡ take k (counted_events table trace)
events_take table trace k = events_front table.tasks (map (λ d. uncounted) table.tasks) (replicate table.programs unedited) trace k

events_many : (ds : List AuditTask) (cs : List Counted) (ns : List Numbers) (es : List TraceEvent) → length (counted_events_from ds cs ns es) ≡ length es
events_many ds cs ns [] = refl
events_many ds cs ns (e ∷ es) = ap suc (events_many ds (counted_all ds e cs) (edited_all e ns) es)

pub events_length : (table : Table) (trace : List TraceEvent) → length (counted_events table trace) ≡ length trace
events_length table trace = events_many table.tasks (map (λ d. uncounted) table.tasks) (replicate table.programs unedited) trace

-- ---- what is kept after one event more

module _ (table : Table) (trace : List TraceEvent) (i : ℕ) (d : TraceEvent) (within : i < length trace) where
  abbrev pre : List TraceEvent
  pre = take i trace

  abbrev here : CountedEvent
  here = place_after table pre (slice_index_or trace i d)

  pub past_more : past_after table (take (i + 1) trace) ≡ here ∷ past_after table pre
  past_more = ap (back []) (events_more table trace i d within) ∙ back_more [] (counted_events table pre) here

  pub each_on : (test : List CountedEvent → CountedEvent → Bool) → each_with_past test [] (counted_events table (take (i + 1) trace)) ≡ (each_with_past test [] (counted_events table pre) && test (past_after table pre) here)
  each_on test = ap (each_with_past test []) (events_more table trace i d within) ∙ each_more test [] (counted_events table pre) here

module _ (r : Roster) (trace : List TraceEvent) (i : ℕ) (d : TraceEvent) (within : i < length trace) where
  abbrev it : CountedEvent
  it = place_after r.table (take i trace) (slice_index_or trace i d)

  -- a law that is kept so far, and at the next place
  pub still_kept : (law : Law) → keeps law r (take i trace) ≡ true → keeps_at law r (past_after r.table (take i trace)) it ≡ true → keeps law r (take (i + 1) trace) ≡ true
  still_kept law h k = each_on r.table trace i d within (keeps_at law r) ∙ and_from _ _ h k

  -- or not
  pub not_kept : (law : Law) → keeps_at law r (past_after r.table (take i trace)) it ≡ false → keeps law r (take (i + 1) trace) ≡ false
  not_kept law k = each_on r.table trace i d within (keeps_at law r) ∙ and_right (keeps law r (take i trace)) _ k

-- a shorter beginning
pub keeps_front : (law : Law) (r : Roster) (trace : List TraceEvent) (i j : ℕ) → i ≤ j → keeps law r (take j trace) ≡ true → keeps law r (take i trace) ≡ true
keeps_front law r trace i j le h =
    ap (each_with_past (keeps_at law r) []) (events_take r.table trace i)
    ∙ each_front (keeps_at law r) [] (take i all) (drop i (take j all)) (sym (ap (each_with_past (keeps_at law r) []) (events_take r.table trace j ∙ split)) ∙ h)
  where
    all : List CountedEvent
    all = counted_events r.table trace

    split : take j all ≡ take i all ++ drop i (take j all)
    split = sym (take-append-drop i (take j all)) ∙ ap (λ (xs : List CountedEvent). xs ++ drop i (take j all)) (take-take i j all le)
