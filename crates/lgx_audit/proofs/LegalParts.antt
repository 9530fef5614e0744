-- What is legal is so from its beginning on.
use Rattle.std.proofs.Common.{◌≡◌, ℕ, ◌≤◌, Bool, true, List, [], ◌∷◌, ◌++◌, length, refl, sym, ◌∙◌, ap, subst}
use Rattle.std.specs.Prelude.{take, drop, map, replicate}
use Rattle.std.specs.List.{list_all, AllByRecursion as Each}
use Rattle.std.proofs.lemmas.Bool.{and_from, and_parts}
use Rattle.std.proofs.lemmas.List.{take-take, take-append-drop}
use Rattle.spec_schedule.specs.declared.trace.AuditTask.{AuditTask}
use Rattle.spec_schedule.specs.declared.trace.Table.{Table}
use Rattle.spec_schedule.specs.declared.trace.TraceEvent.{TraceEvent}
use Rattle.spec_schedule.specs.declared.trace.TraceEvent.TheVariants.{Idle}
use Rattle.spec_schedule.specs.Counting.{Counted, uncounted, counted_all, Numbers, unedited, edited_all, CountedEvent, counted_events_from}
use Rattle.spec_schedule.specs.Legal.{Legal, keeps_priority, keeps_version}
use Rattle.lgx_audit.specs.TraceTable.{AreInTable}
use Rattle.lgx_audit.specs.Along.{IsWithin}
use Rattle.lgx_audit.specs.Watching.{Watching, watched_all, first_watching, gives_way_now, passes_from}
use Rattle.lgx_audit.proofs.Decided.{turns_decided, ways_decided}
use Rattle.lgx_audit.proofs.Judged.{each_take, turn_test}
use Rattle.lgx_audit.proofs.TableBounds.{tasks_within}

pub each_front : {A : Type 0} (P : A → Type 0) (xs ys : List A) → Each P (xs ++ ys) → Each P xs
each_front P [] ys h = tt
each_front P (x ∷ xs) ys h = (h.0, each_front P xs ys h.1)

-- a test of single places
all_front : (test : CountedEvent → Bool) (ds : List AuditTask) (cs : List Counted) (ns : List Numbers) (xs ys : List TraceEvent) → list_all test (counted_events_from ds cs ns (xs ++ ys)) ≡ true → list_all test (counted_events_from ds cs ns xs) ≡ true
all_front test ds cs ns [] ys h = refl
all_front test ds cs ns (e ∷ es) ys h =
    let here : CountedEvent = record { tasks = cs; programs = ns; event = e } in
    let two = and_parts (test here) (list_all test (counted_events_from ds (counted_all ds e cs) (edited_all e ns) (es ++ ys))) h in
    and_from _ _ two.0 (all_front test ds (counted_all ds e cs) (edited_all e ns) es ys two.1)

-- a test by what is watched
passes_front : (test : Watching → CountedEvent → Bool) (table : Table) (w : Watching) (cs : List Counted) (ns : List Numbers) (xs ys : List TraceEvent) → passes_from test table w cs ns (xs ++ ys) ≡ true → passes_from test table w cs ns xs ≡ true
passes_front test table w cs ns [] ys h = refl
passes_front test table w cs ns (e ∷ es) ys h =
    let x : CountedEvent = record { tasks = cs; programs = ns; event = e } in
    let cs' = counted_all table.tasks e cs in
    let w' = watched_all table x cs' w in
    let two = and_parts (test w x) (passes_from test table w' cs' (edited_all e ns) (es ++ ys)) h in
    and_from _ _ two.0 (passes_front test table w' cs' (edited_all e ns) es ys two.1)

pub legal_front : (table : Table) (xs ys : List TraceEvent) → Each (IsWithin (length table.tasks)) (xs ++ ys) → Legal table (xs ++ ys) → Legal table xs
legal_front table xs ys within h =
    let cs = map (λ d. uncounted) table.tasks in
    let ns = replicate table.programs unedited in
    record {
      priority = all_front (keeps_priority table) table.tasks cs ns xs ys h.priority;
      turns = (turns_decided table xs (each_front (IsWithin (length table.tasks)) xs ys within)).0 (passes_front turn_test table (first_watching table) cs ns xs ys ((turns_decided table (xs ++ ys) within).1 h.turns));
      ticks = (ways_decided table xs).0 (passes_front gives_way_now table (first_watching table) cs ns xs ys ((ways_decided table (xs ++ ys)).1 h.ticks));
      versions = all_front keeps_version table.tasks cs ns xs ys h.versions;
    }

pub all_within : (table : Table) (trace : List TraceEvent) (i : ℕ) → AreInTable table trace → Each (IsWithin (length table.tasks)) (take i trace)
all_within table trace i known = each_take (IsWithin (length table.tasks)) Idle i trace (tasks_within table trace known)

pub legal_take : (table : Table) (trace : List TraceEvent) (i j : ℕ) → AreInTable table trace → i ≤ j → Legal table (take j trace) → Legal table (take i trace)
legal_take table trace i j known le h =
    let whole : take j trace ≡ take i trace ++ drop i (take j trace) = sym (take-append-drop i (take j trace)) ∙ ap (λ xs. xs ++ drop i (take j trace)) (take-take i j trace le) in
    legal_front table (take i trace) (drop i (take j trace))
    (subst (λ (xs : List TraceEvent). Each (IsWithin (length table.tasks)) xs) whole (all_within table trace j known))
    (subst (λ (xs : List TraceEvent). Legal table xs) whole h)
