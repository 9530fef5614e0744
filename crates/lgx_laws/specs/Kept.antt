-- What is kept along a trace, beside the counts of the audit, so that each law is a test of the next event.
use Rattle.std.specs.Prelude.{◌≡◌, ℕ, ◌<◌, ◌≤◌, List, [], ◌∷◌, fold, length, slice_index_or, false, None, Some}
use Rattle.spec_base.specs.declared.limits.TheConstants.{MAX_TASKS}
use Rattle.spec_tables.specs.declared.task.TaskKind.{TaskKind}
use Rattle.spec_tables.specs.declared.task.TaskKind.TheVariants.{Periodic}
use Rattle.spec_tables.specs.declared.task.TaskDef.{TaskDef}
use Rattle.spec_tables.specs.Tasks.{no_task}
use Rattle.spec_schedule.specs.declared.trace.TraceEvent.{TraceEvent}
use Rattle.spec_schedule.specs.declared.trace.TraceEvent.TheVariants.{Step, Tick}
use Rattle.spec_schedule.specs.declared.trace.TraceMark.TheVariants.{Trigger}
use Rattle.spec_schedule.specs.declared.trace.Table.{Table}
use Rattle.spec_schedule.specs.Counting.{Counted, Numbers, unedited, CountedEvent, counted_events}
use Rattle.spec_laws.specs.CountedBack.{ticks_up}
use Rattle.spec_laws.specs.Scans.{scanned}
use Rattle.lgx_laws.specs.declared.since.Since.{Since}
use Rattle.lgx_laws.specs.declared.edits.Booked.{Booked}
use Rattle.lgx_laws.specs.Copies.{copied}
use Rattle.lgx_laws.specs.Edits.{Owned, owned}
use Rattle.lgx_laws.specs.Laws.{Roster}

-- ---- of tasks

abbrev pub no_since : Since
no_since = record { ticks = 0; scan = None; copy = None }

-- of a task, by what is counted now and by the events of the past
abbrev pub since : ℕ → List Counted → List CountedEvent → Since
since t now past = record { ticks = ticks_up t now past; scan = scanned t now past; copy = copied t now past }

-- these are kept of these tasks
pub record Kept (xs : List Since) (now : List Counted) (past : List CountedEvent) : Type 0 where
  pub many : length xs ≡ length now
  pub each : (t : ℕ) → t < length now → slice_index_or xs t no_since ≡ since t now past

-- the events of a trace, each with what is counted there, the latest first
abbrev pub back : List CountedEvent → List CountedEvent → List CountedEvent
back past xs = fold (λ past x. x ∷ past) past xs

abbrev pub past_after : Table → List TraceEvent → List CountedEvent
past_after table trace = back [] (counted_events table trace)

-- ---- of programs

abbrev pub no_booked : Booked
no_booked = record { newest = 0; testing = false; owner = None; tested = false }

-- of a program, by its numbers now and by what is known of its edits
abbrev pub booked : Numbers → Owned → Booked
booked n o = record { newest = n.merged; testing = n.testing; owner = o.owner; tested = o.tested }

-- what the law of edits asks of it; it asks nothing of the base's number
abbrev pub owned_in : Booked → Owned
owned_in b = record { owner = b.owner; tested = b.tested }

abbrev pub numbers_in : Booked → Numbers
numbers_in b = record { base = 0; merged = b.newest; testing = b.testing }

-- these are kept of these programs
pub record Books (xs : List Booked) (now : List Numbers) (past : List CountedEvent) : Type 0 where
  pub many : length xs ≡ length now
  pub each : (g : ℕ) → g < length now → slice_index_or xs g no_booked ≡ booked (slice_index_or now g unedited) (owned g past)

-- ---- what is presumed of the tasks

abbrev pub IsPeriod : TaskKind → Type 0
IsPeriod (Periodic n) = 0 < n
IsPeriod _ = Unit {0}

abbrev pub HavePeriods : List TaskDef → Type 0
HavePeriods tasks = (t : ℕ) → t < length tasks → IsPeriod (slice_index_or tasks t no_task).kind

-- as many tasks in the table, in the project and in the schedule, no more than there may be, and no period is 0
pub record IsProper (r : Roster) : Type 0 where
  pub tasks : length r.tasks ≡ length r.table.tasks
  pub lists : length r.schedule ≡ length r.table.tasks
  pub few : length r.tasks ≤ MAX_TASKS
  pub periods : HavePeriods r.tasks

-- ---- what is presumed of an event

-- the task that a tick reports for its watchdog is one of n tasks
abbrev pub IsToldWithin : ℕ → TraceEvent → Type 0
IsToldWithin n e = go e
  where
    go : TraceEvent → Type 0
    go (Tick released overlapped (Some t)) = t < n
    go _ = Unit {0}

-- and so is the task that a step triggers
abbrev pub IsTriggeredWithin : ℕ → TraceEvent → Type 0
IsTriggeredWithin n e = go e
  where
    go : TraceEvent → Type 0
    go (Step t g (Trigger u) fault) = u < n
    go _ = Unit {0}
