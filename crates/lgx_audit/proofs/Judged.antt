-- From the tests of the events so far to the laws, and what is kept after one event more.
use Rattle.std.proofs.Common.{◌≡◌, ℕ, zero, suc, ◌<◌, Bool, true, false, List, [], ◌∷◌, length, map, Option, refl, sym, ◌∙◌, ap, arith}
use Rattle.std.specs.Prelude.{slice_index_or, take, ◌&&◌, replicate}
use Rattle.std.specs.List.{AllByRecursion as Each}
use Rattle.std.proofs.lemmas.Bool.{and_from, and_left, and_right, and_cases, false_from_ne_true, false≢true}
use Rattle.std.proofs.lemmas.List.{ext_get_or, length-replicate, get_or-replicate}
use Rattle.std.proofs.Common.{inl, inr}
use Rattle.lgx_audit.specs.declared.watch.TurnState.{TurnState}
use Rattle.lgx_audit.specs.declared.numbers.Tally.{Tally}
use Rattle.spec_schedule.specs.declared.trace.Table.{Table}
use Rattle.spec_schedule.specs.declared.trace.TraceEvent.{TraceEvent}
use Rattle.spec_schedule.specs.Counting.{Counted, uncounted, unedited, CountedEvent, counted_events}
use Rattle.spec_schedule.specs.Legal.{Legal, each_from, keeps_turn, gives_way}
use Rattle.lgx_audit.specs.Along.{IsWithin, numbers_in, no_tally, AreNumbersIn}
use Rattle.lgx_audit.specs.Breaches.{keeps}
use Rattle.lgx_audit.specs.Watching.{unwatched, Watching, watch_at, watched, watched_all, is_unpassed, awaits_none, keeps_turn_now, gives_way_now, passes}
use Rattle.lgx_audit.proofs.Decided.{turns_decided, ways_decided, follows, all_long}

pub each_take : {A : Type 0} (P : A → Type 0) (d : A) (i : ℕ) (xs : List A) → ((k : ℕ) → k < length xs → P (slice_index_or xs k d)) → Each P (take i xs)
each_take P d zero xs h = tt
each_take P d (suc i) [] h = tt
each_take P d (suc i) (x ∷ xs) h = (h 0 (omega arith), each_take P d i xs (λ k l. h (suc k) (omega arith)))

abbrev pub turn_test : Watching → CountedEvent → Bool
turn_test w x = keeps_turn_now w.watches x

module _ (table : Table) (trace : List TraceEvent) (within : Each (IsWithin (length table.tasks)) trace) where
  pub turns_of : passes turn_test table trace ≡ true → passes gives_way_now table trace ≡ true → keeps 2 table trace ≡ true
  turns_of h k = and_from _ _ ((turns_decided table trace within).0 h) ((ways_decided table trace).0 k)

  pub legal_of : keeps 1 table trace ≡ true → passes turn_test table trace ≡ true → passes gives_way_now table trace ≡ true → keeps 3 table trace ≡ true → Legal table trace
  legal_of p t w v = record { priority = p; turns = (turns_decided table trace within).0 t; ticks = (ways_decided table trace).0 w; versions = v }

  -- a test that fails breaks the turn law
  pub no_turns : (passes turn_test table trace && passes gives_way_now table trace) ≡ false → keeps 2 table trace ≡ false
  no_turns h = elim (and_cases (passes turn_test table trace) (passes gives_way_now table trace) h) [
    | inl t ↦ and_left _ (each_from (gives_way table) (counted_events table trace)) (false_from_ne_true _ (λ k. false≢true (sym t ∙ (turns_decided table trace within).1 k)))
    | inr w ↦ and_right (each_from (keeps_turn table) (counted_events table trace)) _ (false_from_ne_true _ (λ k. false≢true (sym w ∙ (ways_decided table trace).1 k)))
  ]

pub none_below : (P : ℕ → Type 0) → P 0 → (k : ℕ) → k < 1 → P k
none_below P z zero h = z
none_below P z (suc k) h = absurd (omega arith)

pub one_below : (P : ℕ → Type 0) → P 0 → P 1 → (k : ℕ) → k < 2 → P k
one_below P z a zero h = z
one_below P z a (suc zero) h = a
one_below P z a (suc (suc k)) h = absurd (omega arith)

pub two_below : (P : ℕ → Type 0) → P 0 → P 1 → P 2 → (k : ℕ) → k < 3 → P k
two_below P z a b zero h = z
two_below P z a b (suc zero) h = a
two_below P z a b (suc (suc zero)) h = b
two_below P z a b (suc (suc (suc k))) h = absurd (omega arith)

-- ---- what is watched after an event

pub watches_on : (table : Table) (x : CountedEvent) (cs' : List Counted) (w : Watching) (old new : List TurnState) (last : Option ℕ) → old ≡ w.watches → last ≡ w.last → length old ≡ length table.tasks → length new ≡ length old → ((t : ℕ) → t < length old → watch_at new t ≡ watched table x last t (slice_index_or cs' t uncounted) (watch_at old t)) → new ≡ (watched_all table x cs' w).watches
watches_on table x cs' w old new last is last_is long same each =
    let wide : length w.watches ≡ length table.tasks = sym (ap length is) ∙ long in
    let all = all_long table x cs' w wide in
    ext_get_or unwatched new (watched_all table x cs' w).watches (same ∙ long ∙ sym all) (λ t l.
    each t (omega arith)
    ∙ (ap (λ (o : Option ℕ). watched table x o t (slice_index_or cs' t uncounted) (watch_at old t)) last_is
    ∙ (ap (λ (ws : List TurnState). watched table x w.last t (slice_index_or cs' t uncounted) (watch_at ws t)) is
    ∙ sym ((follows table x cs' w wide).watches t (omega arith)))))

-- ---- at the start

pub all_same : {A B : Type 0} (b : B) (xs : List A) → map (λ x. b) xs ≡ replicate (length xs) b
all_same b [] = refl
all_same b (x ∷ xs) = ap (λ bs. b ∷ bs) (all_same b xs)

pub none_told_yet : (n : ℕ) (ts : List Tally) → ts ≡ replicate n no_tally → AreNumbersIn ts (replicate n unedited)
none_told_yet n ts is = record {
  many = ap length is ∙ (length-replicate n no_tally ∙ sym (length-replicate n unedited));
  each = λ g within.
      (let l = length-replicate n unedited in
      ap (λ (xs : List Tally). numbers_in (slice_index_or xs g no_tally)) is
      ∙ (ap numbers_in (get_or-replicate n g no_tally no_tally (omega arith)) ∙ sym (get_or-replicate n g unedited unedited (omega arith))));
}

-- ---- the tests as the code makes them

pub tests_are : (w : Watching) (ws : List TurnState) (way steps s : Option ℕ) (r : Bool) → ws ≡ w.watches → way ≡ w.way → steps ≡ s → r ≡ (is_unpassed ws steps && awaits_none (record { watches = ws; last = w.last; way = way }) steps) → r ≡ (is_unpassed w.watches s && awaits_none w s)
tests_are w ws way steps s r is_ws is_way is_s made =
    made
    ∙ (ap (λ (o : Option ℕ). is_unpassed ws o && awaits_none (record { watches = ws; last = w.last; way = way }) o) is_s
    ∙ (ap (λ (vs : List TurnState). is_unpassed vs s && awaits_none (record { watches = vs; last = w.last; way = way }) s) is_ws
    ∙ ap (λ (o : Option ℕ). is_unpassed w.watches s && awaits_none (record { watches = w.watches; last = w.last; way = o }) s) is_way))

-- one of two tests fails at the next event
pub either_fails : (p q a b p' q' : Bool) → p' ≡ (p && a) → q' ≡ (q && b) → (a && b) ≡ false → (p' && q') ≡ false
either_fails p q a b p' q' is_p is_q h = elim (and_cases a b h) [
  | inl e ↦ and_left p' q' (is_p ∙ and_right p a e)
  | inr e ↦ and_right p' q' (is_q ∙ and_right q b e)
]
