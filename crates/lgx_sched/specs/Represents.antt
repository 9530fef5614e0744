-- What it means that the table of tasks represents a list of task states with ranks.
use Rattle.std.specs.Prelude.{◌≡◌, ℕ, ◌+◌, ◌<◌, ◌≤◌, Bool, false, IsTrue, nat_eq, List, [], ◌∷◌, length, map, sum_by, count_by, Option, Some, None, IfSome, is_some, option_map, slice_get, replicate}
use Rattle.std.specs.List.{All, Contains}
use Rattle.spec_base.specs.declared.limits.TheConstants.{MAX_TASKS, LEAST_PRIORITY}
use Rattle.spec_tables.specs.declared.task.TaskDef.{TaskDef}
use Rattle.spec_tables.specs.declared.task.TaskKind.{TaskKind}
use Rattle.spec_tables.specs.declared.task.TaskKind.TheVariants.{Periodic}
use Rattle.spec_tables.specs.Tasks.{TaskState, Table, state_of, task}
use Rattle.lgx_sched.specs.declared.active.ActiveTask.{ActiveTask}
use Rattle.lgx_sched.specs.TableView.{TableView, up_of, def_of, queue_at, place_of, has_open}

-- each task has a lower rank than all after it
abbrev pub Ascends : (ℕ → ℕ) → List ℕ → Type 0
Ascends rank [] = Unit {0}
Ascends rank (t ∷ ts) = All (λ u. rank t < rank u) ts × Ascends rank ts

-- the rank of a task that is up
abbrev pub rank_of : Option TaskState → ℕ
rank_of None = 0
rank_of (Some u) = u.rank

-- a state but for its rank
abbrev pub without_rank : TaskState → ActiveTask
without_rank u = record { start = u.start; region_count = u.region_count; cps_open = u.cps_open }

-- task t is up and has priority p
abbrev pub IsUpAt : (ℕ → Option TaskState) → (ℕ → ℕ) → ℕ → ℕ → Type 0
IsUpAt states priority p t = IsTrue (is_some (states t)) × (priority t ≡ p)

-- the tasks of priority p that are up, each once, by their ranks
pub record IsQueueOf (states : ℕ → Option TaskState) (priority : ℕ → ℕ) (p : ℕ) (q : List ℕ) : Type 0 where
  pub each : All (IsUpAt states priority p) q
  pub all : (t : ℕ) → IsUpAt states priority p t → Contains q t
  pub by_rank : Ascends (λ t. rank_of (states t)) q

-- the tasks of priority p that are up with a rank below n, each once, by their ranks
pub record IsAheadOf (states : ℕ → Option TaskState) (priority : ℕ → ℕ) (p n : ℕ) (q : List ℕ) : Type 0 where
  pub each : All (λ t. IsUpAt states priority p t × (rank_of (states t) < n)) q
  pub all : (t : ℕ) → IsUpAt states priority p t → rank_of (states t) < n → Contains q t
  pub by_rank : Ascends (λ t. rank_of (states t)) q

-- task t is up with priority p, and exactly i tasks of this priority that are up have a lower rank
abbrev pub IsInLine : Table → ℕ → ℕ → ℕ → Type 0
IsInLine s p i t =
    IsUpAt (state_of s) (λ k. (task s k).priority) p t × ((q : List ℕ) × (IsAheadOf (state_of s) (λ k. (task s k).priority) p (rank_of (state_of s t)) q × (length q ≡ i)))

-- at most i tasks of priority p are up, so that none has i of them before it
abbrev pub AtMostUp : Table → ℕ → ℕ → Type 0
AtMostUp s p i = (q : List ℕ) × (IsQueueOf (state_of s) (λ k. (task s k).priority) p q × (length q ≤ i))

-- Both have the same tasks up, each with the same start, count of regions and open CPS, and both came to Run at the
-- same tick. No two up tasks share a rank, all are below the next one, and the queue of a priority holds its up tasks
-- in the order of their ranks, whose numbers don't matter.
pub record RepresentsTable (v : TableView) (s : Table) : Type 0 where
  pub defs : v.defs ≡ s.defs
  pub ups : v.ups ≡ map (option_map without_rank) s.states
  pub run_since : v.run_since ≡ s.run_since
  pub below : (t : ℕ) → IsTrue (is_some (state_of s t)) → rank_of (state_of s t) < s.next
  pub differ : (t u : ℕ) → IsTrue (is_some (state_of s t)) → IsTrue (is_some (state_of s u)) → rank_of (state_of s t) ≡ rank_of (state_of s u) → t ≡ u
  pub queues : (p : ℕ) → IsQueueOf (state_of s) (λ t. (task s t).priority) (p + 1) (queue_at v p)

-- ---- what is true of every table

-- each period is at least 1
abbrev pub HasPeriod : TaskKind → Type 0
HasPeriod (Periodic n) = 0 < n
HasPeriod _ = Unit {0}

abbrev pub is_it : Option ℕ → ℕ → Bool
is_it None t = false
is_it (Some o) t = nat_eq o t

-- There are few tasks, and a queue for each priority; what is open is known, is of one task alone, and this task
-- is the first of its queue; and the queues have no more tasks than are up.
pub record IsSound (v : TableView) : Type 0 where
  pub few : length v.defs ≤ MAX_TASKS
  pub as_many : length v.ups ≡ length v.defs
  pub queue_each : length v.queues ≡ LEAST_PRIORITY
  pub priorities : (t : ℕ) → t < length v.defs → (0 < (def_of v t).priority) × ((def_of v t).priority ≤ LEAST_PRIORITY)
  pub periods : (t : ℕ) → t < length v.defs → HasPeriod ((def_of v t).kind)
  pub alone : (t : ℕ) → has_open (up_of v t) ≡ is_it v.open_task t
  pub first : IfSome v.open_task (λ t. slice_get (queue_at v (place_of v t)) 0 ≡ Some t)
  pub room : sum_by (λ (q : List ℕ). length q) v.queues ≡ count_by is_some v.ups

-- it is sound, and there is a list that it represents
abbrev pub IsTable : TableView → Type 0
IsTable v = IsSound v × ((s : Table) × RepresentsTable v s)

-- the list of a table that was just made: every task is down
abbrev pub none_up : List TaskDef → ℕ → Table
none_up defs next = record { defs = defs; states = replicate (length defs) None; next = next; run_since = 0 }
