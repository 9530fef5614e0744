-- One event more: what is watched, and the tests by it.
use Rattle.std.proofs.Common.{◌≡◌, ℕ, ◌+◌, ◌<◌, Bool, true, false, List, [], ◌∷◌, ◌++◌, length, map, refl, ◌∙◌, ap}
use Rattle.std.specs.Prelude.{slice_index_or, take, fold, ◌&&◌, replicate}
use Rattle.std.proofs.lemmas.Bool.{and_from, and_right}
use Rattle.std.proofs.lemmas.List.{take_more}
use Rattle.spec_schedule.specs.declared.trace.Table.{Table}
use Rattle.spec_schedule.specs.declared.trace.TraceEvent.{TraceEvent}
use Rattle.spec_schedule.specs.Counting.{Counted, uncounted, counted_all, Numbers, unedited, edited_all, CountedEvent}
use Rattle.lgx_audit.specs.Along.{counts_after, place_after}
use Rattle.lgx_audit.specs.Watching.{Watching, watched_all, first_watching, passes_from, passes, watching_from, watching_after}

module _ (table : Table) where
  abbrev counts_on : List Counted → List TraceEvent → List Counted
  counts_on cs es = fold (λ cs e. counted_all table.tasks e cs) cs es

  abbrev numbers_on : List Numbers → List TraceEvent → List Numbers
  numbers_on ns es = fold (λ ns e. edited_all e ns) ns es

  abbrev place_on : List Counted → List Numbers → List TraceEvent → TraceEvent → CountedEvent
  place_on cs ns es e = record { tasks = counts_on cs es; programs = numbers_on ns es; event = e }

  watching_on : (w : Watching) (cs : List Counted) (ns : List Numbers) (es : List TraceEvent) (e : TraceEvent) → watching_from table w cs ns (es ++ e ∷ []) ≡ watched_all table (place_on cs ns es e) (counted_all table.tasks e (counts_on cs es)) (watching_from table w cs ns es)
  watching_on w cs ns [] e = refl
  watching_on w cs ns (x ∷ es) e = watching_on (watched_all table (record { tasks = cs; programs = ns; event = x }) (counted_all table.tasks x cs) w) (counted_all table.tasks x cs) (edited_all x ns) es e

  passes_on : (test : Watching → CountedEvent → Bool) (w : Watching) (cs : List Counted) (ns : List Numbers) (es : List TraceEvent) (e : TraceEvent) → passes_from test table w cs ns (es ++ e ∷ []) ≡ (passes_from test table w cs ns es && test (watching_from table w cs ns es) (place_on cs ns es e))
  passes_on test w cs ns [] e = last (test w (record { tasks = cs; programs = ns; event = e }))
    where
      last : (b : Bool) → (b && true) ≡ (true && b)
      last true = refl
      last false = refl
  passes_on test w cs ns (x ∷ es) e =
      let y : CountedEvent = record { tasks = cs; programs = ns; event = x } in
      let cs' = counted_all table.tasks x cs in
      let w' = watched_all table y cs' w in
      ap (λ b. test w y && b) (passes_on test w' cs' (edited_all x ns) es e) ∙ assoc (test w y) (passes_from test table w' cs' (edited_all x ns) es) (test (watching_from table w' cs' (edited_all x ns) es) (place_on cs' (edited_all x ns) es e))
    where
      assoc : (a b c : Bool) → (a && (b && c)) ≡ ((a && b) && c)
      assoc true b c = refl
      assoc false b c = refl

  module _ (trace : List TraceEvent) (i : ℕ) (d : TraceEvent) (within : i < length trace) where
    abbrev e : TraceEvent
    e = slice_index_or trace i d

    abbrev pre : List TraceEvent
    pre = take i trace

    pub watching_more : watching_after table (take (i + 1) trace) ≡ watched_all table (place_after table pre e) (counted_all table.tasks e (counts_after table pre)) (watching_after table pre)
    watching_more =
        ap (watching_after table) (take_more trace i d within)
        ∙ watching_on (first_watching table) (map (λ d. uncounted) table.tasks) (replicate table.programs unedited) pre e

    pub passes_more : (test : Watching → CountedEvent → Bool) → passes test table (take (i + 1) trace) ≡ (passes test table pre && test (watching_after table pre) (place_after table pre e))
    passes_more test =
        ap (passes test table) (take_more trace i d within)
        ∙ passes_on test (first_watching table) (map (λ d. uncounted) table.tasks) (replicate table.programs unedited) pre e

    pub still_passes : (test : Watching → CountedEvent → Bool) → passes test table pre ≡ true → test (watching_after table pre) (place_after table pre e) ≡ true → passes test table (take (i + 1) trace) ≡ true
    still_passes test h k = passes_more test ∙ and_from _ _ h k

    pub passes_no_more : (test : Watching → CountedEvent → Bool) → test (watching_after table pre) (place_after table pre e) ≡ false → passes test table (take (i + 1) trace) ≡ false
    passes_no_more test k = passes_more test ∙ and_right (passes test table pre) _ k
