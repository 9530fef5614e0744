-- One event more: what is counted, and the laws that are tests of single places.
use Rattle.std.proofs.Common.{◌≡◌, ℕ, ◌+◌, ◌<◌, Bool, true, false, List, [], ◌∷◌, ◌++◌, length, map, refl, ◌∙◌, ap}
use Rattle.std.specs.Prelude.{slice_index_or, take, fold, ◌&&◌, replicate}
use Rattle.std.specs.List.{list_all}
use Rattle.std.proofs.lemmas.Bool.{and_from, and_right}
use Rattle.std.proofs.lemmas.List.{take_more}
use Rattle.std.proofs.lemmas.List.Folds.{list_all-append}
use Rattle.spec_schedule.specs.declared.trace.AuditTask.{AuditTask}
use Rattle.spec_schedule.specs.declared.trace.Table.{Table}
use Rattle.spec_schedule.specs.declared.trace.TraceEvent.{TraceEvent}
use Rattle.spec_schedule.specs.Counting.{Counted, CountedEvent, Numbers, counted_all, counted_events, counted_events_from, edited_all, uncounted, unedited}
use Rattle.lgx_audit.specs.Along.{counts_after, numbers_after, place_after}

fold_more : {A B : Type 0} (f : B → A → B) (b : B) (xs : List A) (x : A) → fold f b (xs ++ x ∷ []) ≡ f (fold f b xs) x
fold_more f b [] x = refl
fold_more f b (y ∷ xs) x = fold_more f (f b y) xs x

events_from : (ds : List AuditTask) (cs : List Counted) (ns : List Numbers) (es : List TraceEvent) (e : TraceEvent) → counted_events_from ds cs ns (es ++ e ∷ []) ≡ counted_events_from ds cs ns es ++ record { tasks = fold (λ cs e. counted_all ds e cs) cs es; programs = fold (λ ns e. edited_all e ns) ns es; event = e } ∷ []
events_from ds cs ns [] e = refl
events_from ds cs ns (x ∷ es) e = ap (λ (ys : List CountedEvent). record { tasks = cs; programs = ns; event = x } ∷ ys) (events_from ds (counted_all ds x cs) (edited_all x ns) es e)

module _ (table : Table) (trace : List TraceEvent) (i : ℕ) (d : TraceEvent) (within : i < length trace) where
  abbrev e : TraceEvent
  e = slice_index_or trace i d

  pub counts_more : counts_after table (take (i + 1) trace) ≡ counted_all table.tasks e (counts_after table (take i trace))
  counts_more =
      ap (counts_after table) (take_more trace i d within)
      ∙ fold_more (λ cs e. counted_all table.tasks e cs) (map (λ d. uncounted) table.tasks) (take i trace) e

  pub numbers_more : numbers_after table (take (i + 1) trace) ≡ edited_all e (numbers_after table (take i trace))
  numbers_more =
      ap (numbers_after table) (take_more trace i d within)
      ∙ fold_more (λ ns e. edited_all e ns) (replicate table.programs unedited) (take i trace) e

  pub events_more : counted_events table (take (i + 1) trace) ≡ counted_events table (take i trace) ++ place_after table (take i trace) e ∷ []
  events_more =
      ap (counted_events table) (take_more trace i d within)
      ∙ events_from table.tasks (map (λ d. uncounted) table.tasks) (replicate table.programs unedited) (take i trace) e

  module _ (test : CountedEvent → Bool) where
    pub all_more : list_all test (counted_events table (take (i + 1) trace)) ≡ (list_all test (counted_events table (take i trace)) && (test (place_after table (take i trace) e) && true))
    all_more = ap (list_all test) events_more ∙ list_all-append test (counted_events table (take i trace)) (place_after table (take i trace) e ∷ [])

    pub still : list_all test (counted_events table (take i trace)) ≡ true → test (place_after table (take i trace) e) ≡ true → list_all test (counted_events table (take (i + 1) trace)) ≡ true
    still h k = all_more ∙ and_from _ _ h (and_from _ true k refl)

    pub no_more : list_all test (counted_events table (take i trace)) ≡ true → test (place_after table (take i trace) e) ≡ false → list_all test (counted_events table (take (i + 1) trace)) ≡ false
    no_more h k = all_more ∙ and_right (list_all test (counted_events table (take i trace))) _ (ap (λ b. b && true) k)
