-- What the table of tasks keeps. It has no ranks: the order of each queue gives them.
use Rattle.std.specs.Prelude.{ℕ, ◌-◌, Bool, false, not, ◌&&◌, ◌||◌, nat_lt, nat_le, nat_eq, List, [], ◌∷◌, ◌++◌, length, map, drop, replicate, slice_get, Option, Some, None, is_some, is_none, slice_set, slice_index_or, if◌then◌else◌}
use Rattle.spec_tables.specs.declared.task.TaskDef.{TaskDef}
use Rattle.spec_tables.specs.declared.task.Release.{Release}
use Rattle.spec_tables.specs.declared.task.Release.TheVariants.{Released, Overlap, Inhibited}
use Rattle.spec_tables.specs.Tasks.{no_task, or_else, is_continuous}
use Rattle.lgx_sched.specs.declared.active.ActiveTask.{ActiveTask}

-- The tasks in project order; for each whether it is up, with its start, open regions and CPS; for each priority, from 1
-- on, the tasks that are up in the order of their turns; the task that has something open; and the tick of the last
-- change to Run.
pub record TableView : Type 0 where
  pub defs : List TaskDef
  pub ups : List (Option ActiveTask)
  pub queues : List (List ℕ)
  pub open_task : Option ℕ
  pub run_since : ℕ

abbrev pub up_of : TableView → ℕ → Option ActiveTask
up_of v t = slice_index_or v.ups t None

abbrev pub def_of : TableView → ℕ → TaskDef
def_of v t = slice_index_or v.defs t no_task

-- the queue of priority p + 1
abbrev pub queue_at : TableView → ℕ → List ℕ
queue_at v p = slice_index_or v.queues p []

-- the place of a task's queue
abbrev pub place_of : TableView → ℕ → ℕ
place_of v t = (def_of v t).priority - 1

abbrev pub has_open : Option ActiveTask → Bool
has_open None = false
has_open (Some u) = nat_lt 0 u.region_count || u.cps_open

abbrev pub region_count_of : Option ActiveTask → ℕ
region_count_of None = 0
region_count_of (Some u) = u.region_count

abbrev pub has_cps : Option ActiveTask → Bool
has_cps None = false
has_cps (Some u) = u.cps_open

abbrev pub has_run_out : ℕ → TaskDef → Option ActiveTask → Bool
has_run_out now d None = false
has_run_out now d (Some u) = nat_le d.watchdog (now - u.start)

-- what a release of such a task is answered
abbrev pub answer_of : TaskDef → Option ActiveTask → Release
answer_of d u = if d.inhibited then Inhibited else (if is_some u then Overlap else Released)

-- ---- the task at the front

abbrev pub front_or : List ℕ → Option ℕ → Option ℕ
front_or [] other = other
front_or (t ∷ q) other = Some t

-- the front of the first queue that has a task
abbrev pub front_of : List (List ℕ) → Option ℕ
front_of [] = None
front_of (q ∷ qs) = front_or q (front_of qs)

-- The task that is to run. It has something open, or it is at the front.
abbrev pub next_task : TableView → Option ℕ
next_task v = or_else v.open_task (front_of v.queues)

-- The task of priority p that has exactly i tasks of this priority before it.
abbrev pub ready_at : TableView → ℕ → ℕ → Option ℕ
ready_at v p i = if nat_eq p 0 then None else slice_get (queue_at v (p - 1)) i

-- the queue of this task's priority has one task
abbrev pub is_alone : TableView → ℕ → Bool
is_alone v t = nat_eq (length (queue_at v (place_of v t))) 1

-- The task is the continuous one, alone in its queue, with nothing open. If it is to run now, then after its last program it
-- is to run again.
abbrev pub runs_again : TableView → ℕ → Bool
runs_again v t = is_continuous (def_of v t).kind && (not (def_of v t).inhibited && (is_none v.open_task && is_alone v t))

-- ---- what the steps leave

abbrev pub pushed : List (List ℕ) → ℕ → ℕ → List (List ℕ)
pushed qs p t = slice_set qs p (slice_index_or qs p [] ++ t ∷ [])

abbrev pub popped : List (List ℕ) → ℕ → List (List ℕ)
popped qs p = slice_set qs p (drop 1 (slice_index_or qs p []))

-- a task that was down is up, last in its queue
abbrev pub enqueued : ℕ → ℕ → TableView → TableView
enqueued t now v = record v { ups = slice_set v.ups t (Some (record { start = now; region_count = 0; cps_open = false })); queues = pushed v.queues (place_of v t) t }

-- what a release leaves, by its answer
abbrev pub enqueued_if : Release → ℕ → ℕ → TableView → TableView
enqueued_if Released t now v = enqueued t now v
enqueued_if Overlap t now v = v
enqueued_if Inhibited t now v = v

-- the task that is to run is down
abbrev pub dequeued : ℕ → TableView → TableView
dequeued t v = record v { ups = slice_set v.ups t None; queues = popped v.queues (place_of v t); open_task = None }

-- the task at the front goes to the end of its queue
abbrev pub rotated : ℕ → TableView → TableView
rotated t v = record v { queues = pushed (popped v.queues (place_of v t)) (place_of v t) t }

abbrev pub task_if_open : ℕ → ActiveTask → Option ℕ
task_if_open t u = if has_open (Some u) then Some t else None

-- the task that is to run has other regions, or another CPS
abbrev pub with_active : ℕ → ActiveTask → TableView → TableView
with_active t u v = record v { ups = slice_set v.ups t (Some u); open_task = task_if_open t u }

-- the task that is to run starts once more, where it is in its queue
abbrev pub restarted : ℕ → ℕ → TableView → TableView
restarted t now v = record v { ups = slice_set v.ups t (Some (record { start = now; region_count = 0; cps_open = false })) }

abbrev pub all_down : TableView → TableView
all_down v = record v { ups = replicate (length v.ups) None; queues = map (λ q. []) v.queues; open_task = None }
