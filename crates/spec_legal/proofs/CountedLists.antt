-- What is counted of one task of a list.
use Rattle.std.proofs.Common.{◌≡◌, ℕ, zero, suc, ◌+◌, ◌<◌, inl, inr, Bool, true, List, [], ◌∷◌, length, map, refl, ◌∙◌, ap, arith}
use Rattle.std.specs.Prelude.{slice_index_or}
use Rattle.std.specs.List.{list_any, enumerate_from, zip}
use Rattle.std.proofs.lemmas.Bool.{or_left, or_right, or_cases}
use Rattle.spec_tables.specs.declared.task.TaskDef.{TaskDef}
use Rattle.spec_tables.specs.Tasks.{no_task as no_def}
use Rattle.spec_schedule.specs.declared.trace.AuditTask.{AuditTask}
use Rattle.spec_schedule.specs.declared.trace.TraceEvent.{TraceEvent}
use Rattle.spec_schedule.specs.Counting.{Counted, uncounted, counted, CountedTask}
use Rattle.spec_schedule.specs.Legal.{no_task}
use Rattle.spec_schedule.specs.TraceView.{audit_task, audit_tasks}

-- the tasks of a list with their counts, where the first is number i
abbrev pub tasks_from : ℕ → List AuditTask → List Counted → List CountedTask
tasks_from i ds cs = map (λ x. record { number = x.0; task = x.1.0; counts = x.1.1 }) (enumerate_from i (zip ds cs))

abbrev pub counts_from : ℕ → List AuditTask → TraceEvent → List Counted → List Counted
counts_from i ds e cs = map (λ x. counted x.task x.number e x.counts) (tasks_from i ds cs)

pub counts_length : (i : ℕ) (ds : List AuditTask) (e : TraceEvent) (cs : List Counted) → length cs ≡ length ds → length (counts_from i ds e cs) ≡ length ds
counts_length i [] e cs h = refl
counts_length i (d ∷ ds) e [] h = absurd (omega arith)
counts_length i (d ∷ ds) e (c ∷ cs) h = (let r = counts_length (i + 1) ds e cs (omega arith) in omega arith)

pub count_at : (i : ℕ) (ds : List AuditTask) (e : TraceEvent) (cs : List Counted) (t : ℕ) → length cs ≡ length ds → t < length ds → slice_index_or (counts_from i ds e cs) t uncounted ≡ counted (slice_index_or ds t no_task) (i + t) e (slice_index_or cs t uncounted)
count_at i [] e cs t h l = absurd (omega arith)
count_at i (d ∷ ds) e [] t h l = absurd (omega arith)
count_at i (d ∷ ds) e (c ∷ cs) zero h l = ap (λ n. counted d n e c) (let z : i ≡ i + 0 = omega arith in z)
count_at i (d ∷ ds) e (c ∷ cs) (suc t) h l =
    count_at (i + 1) ds e cs t (omega arith) (omega arith) ∙ ap (λ n. counted (slice_index_or ds t no_task) n e (slice_index_or cs t uncounted)) (let z : i + 1 + t ≡ i + suc t = omega arith in z)

-- ---- tests of the tasks

abbrev pub task_at : ℕ → List AuditTask → List Counted → ℕ → CountedTask
task_at i ds cs t = record { number = i + t; task = slice_index_or ds t no_task; counts = slice_index_or cs t uncounted }

-- a test that passes at some task passes at a place of the table
pub record PassesAt (test : CountedTask → Bool) (i : ℕ) (ds : List AuditTask) (cs : List Counted) : Type 0 where
  pub place : ℕ
  pub within : place < length ds
  pub passes : test (task_at i ds cs place) ≡ true

pub some_passes : (test : CountedTask → Bool) (i : ℕ) (ds : List AuditTask) (cs : List Counted) → list_any test (tasks_from i ds cs) ≡ true → PassesAt test i ds cs
some_passes test i [] cs h = absurd (cc h)
some_passes test i (d ∷ ds) [] h = absurd (cc h)
some_passes test i (d ∷ ds) (c ∷ cs) h =
    elim (or_cases (test (record { number = i; task = d; counts = c })) (list_any test (tasks_from (i + 1) ds cs)) h) [
      | inl p ↦ record { place = 0; within = omega arith; passes = ap (λ n. test (record { number = n; task = d; counts = c })) (let z : i + 0 ≡ i = omega arith in z) ∙ p }
      | inr p ↦ (let r = some_passes test (i + 1) ds cs p in
          let w = r.within in
          record { place = suc r.place; within = omega arith; passes = ap (λ n. test (record { number = n; task = slice_index_or ds r.place no_task; counts = slice_index_or cs r.place uncounted })) (let z : i + suc r.place ≡ i + 1 + r.place = omega arith in z) ∙ r.passes })
    ]

pub passes_some : (test : CountedTask → Bool) (i : ℕ) (ds : List AuditTask) (cs : List Counted) (t : ℕ) → length cs ≡ length ds → t < length ds → test (task_at i ds cs t) ≡ true → list_any test (tasks_from i ds cs) ≡ true
passes_some test i [] cs t h l p = absurd (omega arith)
passes_some test i (d ∷ ds) [] t h l p = absurd (omega arith)
passes_some test i (d ∷ ds) (c ∷ cs) zero h l p =
    or_left (test (record { number = i; task = d; counts = c })) _ (ap (λ n. test (record { number = n; task = d; counts = c })) (let z : i ≡ i + 0 = omega arith in z) ∙ p)
passes_some test i (d ∷ ds) (c ∷ cs) (suc t) h l p =
    or_right (test (record { number = i; task = d; counts = c })) _
    (passes_some test (i + 1) ds cs t (omega arith) (omega arith) (ap (λ n. test (record { number = n; task = slice_index_or ds t no_task; counts = slice_index_or cs t uncounted })) (let z : i + 1 + t ≡ i + suc t = omega arith in z) ∙ p))

-- ---- the table of a project

pub audit_length : (tasks : List TaskDef) (schedule : List (List ℕ)) → length schedule ≡ length tasks → length (audit_tasks tasks schedule) ≡ length tasks
audit_length [] schedule h = refl
audit_length (d ∷ ds) [] h = absurd (omega arith)
audit_length (d ∷ ds) (x ∷ xs) h = (let r = audit_length ds xs (omega arith) in omega arith)

pub audit_at : (tasks : List TaskDef) (schedule : List (List ℕ)) (t : ℕ) → length schedule ≡ length tasks → t < length tasks → slice_index_or (audit_tasks tasks schedule) t no_task ≡ audit_task (slice_index_or tasks t no_def) (slice_index_or schedule t [])
audit_at [] schedule t h l = absurd (omega arith)
audit_at (d ∷ ds) [] t h l = absurd (omega arith)
audit_at (d ∷ ds) (x ∷ xs) zero h l = refl
audit_at (d ∷ ds) (x ∷ xs) (suc t) h l = audit_at ds xs t (omega arith) (omega arith)

pub all_uncounted : (ds : List AuditTask) (t : ℕ) → slice_index_or (map (λ d. uncounted) ds) t uncounted ≡ uncounted
all_uncounted [] t = refl
all_uncounted (d ∷ ds) zero = refl
all_uncounted (d ∷ ds) (suc t) = all_uncounted ds t

-- ---- a numbered list

pub record EnumeratedAt {A : Type 0} (test : ℕ × A → Bool) (i : ℕ) (xs : List A) (d : A) : Type 0 where
  pub place : ℕ
  pub within : place < length xs
  pub passes : test (i + place, slice_index_or xs place d) ≡ true

pub some_enumerated : {A : Type 0} (test : ℕ × A → Bool) (i : ℕ) (xs : List A) (d : A) → list_any test (enumerate_from i xs) ≡ true → EnumeratedAt test i xs d
some_enumerated test i [] d h = absurd (cc h)
some_enumerated test i (x ∷ xs) d h =
    elim (or_cases (test (i, x)) (list_any test (enumerate_from (i + 1) xs)) h) [
      | inl p ↦ record { place = 0; within = omega arith; passes = ap (λ n. test (n, x)) (let z : i + 0 ≡ i = omega arith in z) ∙ p }
      | inr p ↦ (let r = some_enumerated test (i + 1) xs d p in
          let w = r.within in
          record { place = suc r.place; within = omega arith; passes = ap (λ n. test (n, slice_index_or xs r.place d)) (let z : i + suc r.place ≡ i + 1 + r.place = omega arith in z) ∙ r.passes })
    ]
