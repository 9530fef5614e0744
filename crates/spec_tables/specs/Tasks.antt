-- The table of tasks: which are up, which one is chosen, and how they come up and go down (1756-PM005).
use Rattle.std.specs.Prelude.{ℕ, ◌+◌, ◌-◌, ◌%◌, Bool, true, false, ◌&&◌, ◌||◌, List, [], ◌∷◌, ◌++◌, map, nat_lt, nat_le, nat_eq, if◌then◌else◌, Option, Some, None, is_some, option_and_then, slice_set, slice_index_or}
use Rattle.std.specs.List.{list_any, position_from, zip}
-- the first of two that is there
pub use Rattle.std.specs.Option.{option_or as or_else}
use Rattle.spec_tables.specs.declared.task.TaskKind.{TaskKind}
use Rattle.spec_tables.specs.declared.task.TaskKind.TheVariants.{Continuous, Periodic, Event}
use Rattle.spec_tables.specs.declared.task.TaskDef.{TaskDef}
use Rattle.spec_tables.specs.declared.task.Release.{Release}
use Rattle.spec_tables.specs.declared.task.Release.TheVariants.{Released, Overlap, Inhibited}

-- what the table keeps of a task that is up: the tick of its start, its rank, the number of its open regions, and
-- whether it has a CPS in progress
pub record TaskState : Type 0 where
  pub start : ℕ
  pub rank : ℕ
  pub region_count : ℕ
  pub cps_open : Bool

-- the tasks in project order, the state of each that is up, the next rank, and the tick of the last change to Run
pub record Table : Type 0 where
  pub defs : List TaskDef
  pub states : List (Option TaskState)
  pub next : ℕ
  pub run_since : ℕ

abbrev pub no_task : TaskDef
no_task = record { kind = Event; priority = 0; watchdog = 0; inhibited = false }

abbrev pub task : Table → ℕ → TaskDef
task s t = slice_index_or s.defs t no_task

abbrev pub state_of : Table → ℕ → Option TaskState
state_of s t = slice_index_or s.states t None

abbrev pub is_up : Table → ℕ → Bool
is_up s t = is_some (state_of s t)

-- ---- the chosen task

-- a task has something open if its region count is positive or its CPS is in progress
abbrev pub is_open : Option TaskState → Bool
is_open None = false
is_open (Some u) = nat_lt 0 u.region_count || u.cps_open

abbrev pub has_open_cps : Option TaskState → Bool
has_open_cps None = false
has_open_cps (Some u) = u.cps_open

-- some task has a CPS in progress
abbrev pub held : Table → Bool
held s = list_any has_open_cps s.states

pub record Candidate : Type 0 where
  pub task : ℕ
  pub priority : ℕ
  pub rank : ℕ

abbrev pub candidate : ℕ → TaskDef → Option TaskState → List Candidate
candidate t d None = []
candidate t d (Some u) = record { task = t; priority = d.priority; rank = u.rank } ∷ []

-- the tasks that are up, where the first of the table is number t
abbrev pub candidates : ℕ → List TaskDef → List (Option TaskState) → List Candidate
candidates t [] us = []
candidates t (d ∷ ds) [] = []
candidates t (d ∷ ds) (u ∷ us) = candidate t d u ++ candidates (t + 1) ds us

-- by priority, 1 being the highest, and then by rank
abbrev pub before : Candidate → Candidate → Bool
before a b = nat_lt a.priority b.priority || (nat_eq a.priority b.priority && nat_lt a.rank b.rank)

abbrev pub least_of : Candidate → List Candidate → Candidate
least_of a [] = a
least_of a (b ∷ bs) = least_of (if before b a then b else a) bs

abbrev pub least : List Candidate → Option ℕ
least [] = None
least (a ∷ others) = Some ((least_of a others).task)

-- Who steps: a task with an open CPS or region before all others; else, of the up tasks with the lowest number of
-- priority, the one with the lowest rank.
abbrev pub chosen : Table → Option ℕ
chosen s = or_else (position_from is_open 0 s.states) (least (candidates 0 s.defs s.states))

-- ---- up and down

-- up: the present tick is its start, and it has the next rank
abbrev pub put_up : ℕ → ℕ → Table → Table
put_up t now s = record s { states = slice_set s.states t (Some (record { start = now; rank = s.next; region_count = 0; cps_open = false })); next = s.next + 1 }

-- every release is answered by this: an inhibited task is never released, and of the others one that is up overlaps
abbrev pub release_answer : Table → ℕ → Release
release_answer s t = if (task s t).inhibited then Inhibited else (if is_up s t then Overlap else Released)

abbrev pub put_up_if : Release → ℕ → ℕ → Table → Table
put_up_if Released t now s = put_up t now s
put_up_if Overlap t now s = s
put_up_if Inhibited t now s = s

-- A release puts a task up if its answer is `Released`, and changes nothing else.
abbrev pub release : ℕ → ℕ → Table → Table
release t now s = put_up_if (release_answer s t) t now s

-- the release of a task, if there is one
abbrev pub release_some : Option ℕ → ℕ → Table → Table
release_some None now s = s
release_some (Some t) now s = release t now s

abbrev pub is_continuous : TaskKind → Bool
is_continuous Continuous = true
is_continuous _ = false

abbrev pub continuous_task : Table → Option ℕ
continuous_task s = position_from (λ d. is_continuous d.kind) 0 s.defs

-- every task down
abbrev pub stop : Table → Table
stop s = record s { states = map (λ u. None) s.states }

-- The change to Run puts every task down and releases the continuous one. Ranks go on.
abbrev pub start : ℕ → Table → Table
start now s = release_some (continuous_task s) now (record (stop s) { run_since = now })

abbrev pub if_released : Release → ℕ → Option ℕ
if_released Released t = Some t
if_released Overlap t = None
if_released Inhibited t = None

-- the task that the change to Run releases, by the answer
abbrev pub released_at_run : Table → Option ℕ
released_at_run s = option_and_then (λ t. if_released (release_answer (stop s) t) t) (continuous_task s)

-- the task, if it is a continuous one
abbrev pub if_continuous : Table → ℕ → Option ℕ
if_continuous s t = if is_continuous (task s t).kind then Some t else None

-- After its last program a task goes down; the continuous task is released again at once.
abbrev pub finish : ℕ → ℕ → Table → Table
finish t now s = release_some (if_continuous s t) now (record s { states = slice_set s.states t None })

-- ---- regions and copies of a task

abbrev pub with_region_count : ℕ → Option TaskState → Option TaskState
with_region_count n None = None
with_region_count n (Some u) = Some (record u { region_count = n })

abbrev pub with_cps_open : Bool → Option TaskState → Option TaskState
with_cps_open b None = None
with_cps_open b (Some u) = Some (record u { cps_open = b })

abbrev pub region_count : Option TaskState → ℕ
region_count None = 0
region_count (Some u) = u.region_count

abbrev pub set_region : ℕ → ℕ → Table → Table
set_region t n s = record s { states = slice_set s.states t (with_region_count n (state_of s t)) }

-- UID opens a region
abbrev pub region_up : ℕ → Table → Table
region_up t s = set_region t (region_count (state_of s t) + 1) s

-- UIE closes one, and does nothing if none is open (profile)
abbrev pub region_down : ℕ → Table → Table
region_down t s = set_region t (region_count (state_of s t) - 1) s

-- the end of a program scan closes all (profile)
abbrev pub region_clear : ℕ → Table → Table
region_clear t s = set_region t 0 s

-- a CPS starts, or has copied its last element
abbrev pub set_copy : ℕ → Bool → Table → Table
set_copy t b s = record s { states = slice_set s.states t (with_cps_open b (state_of s t)) }

-- ---- the tick

abbrev pub with_rank : ℕ → Option TaskState → Option TaskState
with_rank n None = None
with_rank n (Some u) = Some (record u { rank = n })

abbrev pub to_back : ℕ → Table → Table
to_back t s = record s { states = slice_set s.states t (with_rank s.next (state_of s t)); next = s.next + 1 }

abbrev pub unless_open : Option ℕ → Table → Table
unless_open None s = s
unless_open (Some t) s = if is_open (state_of s t) then s else to_back t s

-- The chosen task takes the next rank, unless it has something open. So equal priorities take turns at ticks (profile).
abbrev pub rotate : Table → Table
rotate s = unless_open (chosen s) s

abbrev pub has_expired : ℕ → TaskDef → Option TaskState → Bool
has_expired now d None = false
has_expired now d (Some u) = nat_le d.watchdog (now - u.start)

-- each task with its state, in project order
abbrev pub tasks : Table → List (TaskDef × Option TaskState)
tasks s = zip s.defs s.states

-- The first task in project order that has been up for its watchdog's ticks or more.
abbrev pub expired : ℕ → Table → Option ℕ
expired now s = position_from (λ t. has_expired now t.0 t.1) 0 (tasks s)

abbrev pub divides_by_period : ℕ → TaskKind → Bool
divides_by_period since (Periodic n) = nat_eq (since % n) 0
divides_by_period since _ = false

-- A periodic task is due whenever another whole period has gone by since the controller came to Run.
abbrev pub due : ℕ → ℕ → Table → Bool
due t now s = nat_lt s.run_since now && divides_by_period (now - s.run_since) ((task s t).kind)
