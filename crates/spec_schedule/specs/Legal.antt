-- The legal schedule, by counting along a trace: the priority law, the turn law, and the version law as far as it
-- speaks of numbers.
use Rattle.std.specs.Prelude.{ℕ, List, [], ◌∷◌, drop, slice_index_or, take_while, filter_map, Bool, true, false, not, ◌&&◌, ◌||◌, nat_lt, nat_eq, if◌then◌else◌, Option, Some, None, IsTrue}
use Rattle.std.specs.List.{list_any, list_all, prefix_len, enumerate_from}
use Rattle.spec_schedule.specs.declared.trace.TraceEvent.{TraceEvent}
use Rattle.spec_schedule.specs.declared.trace.TraceEvent.TheVariants.{Idle, Began, Step, Left, Tick, Act}
use Rattle.spec_schedule.specs.declared.trace.AuditTask.{AuditTask}
use Rattle.spec_schedule.specs.declared.trace.Table.{Table}
use Rattle.spec_schedule.specs.Counting.{Counted, uncounted, is_open, unedited, selected_number, stepping, steps_here, CountedTask, counted_tasks, CountedEvent, counted_events}

abbrev pub no_task : AuditTask
no_task = record { continuous = false; priority = 0; programs = 0; inhibited = false }

abbrev pub priority_of : Table → ℕ → ℕ
priority_of table t = (slice_index_or table.tasks t no_task).priority

abbrev pub at : CountedEvent → ℕ → Counted
at x t = slice_index_or x.tasks t uncounted

-- ---- the priority law

-- some task that is counted up passes the test
abbrev pub some_up : (CountedTask → Bool) → Table → CountedEvent → Bool
some_up test table x = list_any (λ u. u.counts.up && test u) (counted_tasks table.tasks x.tasks)

abbrev pub higher_up : Table → CountedEvent → ℕ → Bool
higher_up table x t = some_up (λ u. nat_lt u.task.priority (priority_of table t)) table x

-- a step of t: t is counted up, and if a task of higher priority is, t has a region or a CPS open
abbrev pub may_step : Table → CountedEvent → ℕ → Bool
may_step table x t = (at x t).up && (is_open (at x t) || not (higher_up table x t))

-- an idle step comes only if no task is counted up
abbrev pub keeps_priority : Table → CountedEvent → Bool
keeps_priority table x = check x.event
  where
    check : TraceEvent → Bool
    check Idle = not (some_up (λ u. true) table x)
    check (Began t _ _) = may_step table x t
    check (Step t _ _ _) = may_step table x t
    check (Left t _ _) = may_step table x t
    check _ = true

-- ---- the law of regions

-- An open region isn't interrupted, and neither is an open CPS: while a task has one, no other task steps, of whatever
-- priority. The priority law alone leaves this open for a task of higher priority and, after a tick, of equal priority.
abbrev pub another_open : ℕ → List Counted → Bool
another_open t counts = list_any (λ u. is_open u.1 && not (nat_eq u.0 t)) (enumerate_from 0 counts)

abbrev pub keeps_region : CountedEvent → Bool
keeps_region x = elim (stepping x.event) [ None ↦ true | Some t ↦ not (another_open t x.tasks) ]

abbrev pub KeepsRegions : Table → List TraceEvent → Type 0
KeepsRegions table trace = IsTrue (list_all keeps_region (counted_events table trace))

-- each of a list with those after it
abbrev pub each_from : {A : Type 0} → (A → List A → Bool) → List A → Bool
each_from test [] = true
each_from test (x ∷ xs) = test x xs && each_from test xs

-- ---- the turn law

abbrev pub is_tick : TraceEvent → Bool
is_tick (Tick _ _ _) = true
is_tick _ = false

-- the places from here on that come before the next tick
abbrev pub before_tick : List CountedEvent → List CountedEvent
before_tick xs = take_while (λ x. not (is_tick x.event)) xs

-- t hasn't gone down from the one place up to the other
abbrev pub stays_up : ℕ → CountedEvent → CountedEvent → Bool
stays_up t x y = nat_eq (at x t).downs (at y t).downs

-- who steps, of the tasks with a priority
abbrev pub of_priority : Table → ℕ → Option ℕ → Option ℕ
of_priority table p None = None
of_priority table p (Some t) = if nat_eq (priority_of table t) p then Some t else None

abbrev pub who_steps : Table → ℕ → List CountedEvent → List ℕ
who_steps table p xs = filter_map (λ x. of_priority table p (stepping x.event)) xs

-- t isn't among them after another one
abbrev pub keeps_on : ℕ → List ℕ → Bool
keeps_on t us = not (list_any (λ u. nat_eq u t) (drop (prefix_len (λ u. nat_eq u t) us) us))

-- from one step of t to its next, as long as t stays up and no tick comes, t alone steps of its priority
abbrev pub turn_kept : Table → CountedEvent → List CountedEvent → Option ℕ → Bool
turn_kept table x xs None = true
turn_kept table x xs (Some t) =
    keeps_on t (who_steps table (priority_of table t) (take_while (stays_up t x) (before_tick xs)))

abbrev pub keeps_turn : Table → CountedEvent → List CountedEvent → Bool
keeps_turn table x xs = turn_kept table x xs (stepping x.event)

-- another task of t's priority was counted up at place k, and hasn't gone down up to place y
abbrev pub is_other_up : Table → ℕ → CountedEvent → CountedEvent → CountedTask → Bool
is_other_up table t k y u =
    u.counts.up && (nat_eq u.task.priority (priority_of table t) && not (nat_eq u.number t) && stays_up u.number k y)

-- at place y every other task of t's priority that was counted up at place k has gone down
abbrev pub others_went : Table → ℕ → CountedEvent → CountedEvent → Bool
others_went table t k y = not (list_any (is_other_up table t k y) (counted_tasks table.tasks k.tasks))

abbrev pub gives_turn : Table → ℕ → CountedEvent → List CountedEvent → Bool
gives_turn table t k ys = list_all (λ y. not (steps_here y.event t) || others_went table t k y) (before_tick ys)

-- t could be passed over at tick k: it hasn't gone down since its step x, has nothing open, and no task of higher
-- priority is counted up
abbrev pub is_turn : Table → ℕ → CountedEvent → CountedEvent → Bool
is_turn table t x k = stays_up t x k && not (is_open (at k t)) && not (higher_up table k t)

-- what comes after actions alone
abbrev pub is_action : TraceEvent → Bool
is_action (Act _ _ _ _ _) = true
is_action _ = false

abbrev pub after_actions : List CountedEvent → List CountedEvent
after_actions xs = drop (prefix_len (λ x. is_action x.event) xs) xs

abbrev pub after_tick : Table → ℕ → CountedEvent → List CountedEvent → Bool
after_tick table t x [] = true
after_tick table t x (k ∷ ys) = not (is_tick k.event && is_turn table t x k) || gives_turn table t k ys

-- Of a tick that comes right after a step of t, actions aside: if t had to give way at it, then each task of its
-- priority that was up when the tick came goes down before t steps once more, unless another tick comes first.
abbrev pub way_given : Table → CountedEvent → List CountedEvent → Option ℕ → Bool
way_given table x xs None = true
way_given table x xs (Some t) = after_tick table t x (after_actions xs)

abbrev pub gives_way : Table → CountedEvent → List CountedEvent → Bool
gives_way table x xs = way_given table x xs (stepping x.event)

-- ---- the version law

-- a begin has the number that the edits before it select, by their answers alone
abbrev pub keeps_version : CountedEvent → Bool
keeps_version x = check x.event
  where
    check : TraceEvent → Bool
    check (Began _ g v) = nat_eq v (selected_number (slice_index_or x.programs g unedited))
    check _ = true

-- ---- the laws that a trace shows by itself

-- whether the priority law, the two parts of the turn law and the version law hold of a trace, and the law of regions
abbrev pub verdicts : Table → List TraceEvent → List Bool
verdicts table trace =
    let xs = counted_events table trace in
    list_all (keeps_priority table) xs ∷ each_from (keeps_turn table) xs ∷ each_from (gives_way table) xs ∷ list_all keeps_version xs ∷ list_all keeps_region xs ∷ []

pub record Legal (table : Table) (trace : List TraceEvent) : Type 0 where
  pub priority : IsTrue (list_all (keeps_priority table) (counted_events table trace))
  pub turns : IsTrue (each_from (keeps_turn table) (counted_events table trace))
  pub ticks : IsTrue (each_from (gives_way table) (counted_events table trace))
  pub versions : IsTrue (list_all keeps_version (counted_events table trace))
