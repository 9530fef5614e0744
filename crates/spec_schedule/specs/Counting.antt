-- What is counted along a trace: which tasks are up, their regions and synchronous copies, and the numbers that the
-- accepted edits select. Ranks, queues and positions don't occur.
use Rattle.std.specs.Prelude.{ℕ, ◌+◌, ◌-◌, List, [], ◌∷◌, map, replicate, Bool, true, false, not, ◌&&◌, ◌||◌, nat_lt, nat_eq, if◌then◌else◌, Option, Some, None}
use Rattle.std.specs.Int.{bit_at}
use Rattle.std.specs.List.{enumerate_from, zip}
use Rattle.spec_schedule.specs.declared.trace.TraceMark.{TraceMark}
use Rattle.spec_schedule.specs.declared.trace.TraceMark.TheVariants.{Up, Down, Trigger, Sync, SyncEnd}
use Rattle.spec_schedule.specs.declared.trace.StepFault.TheVariants.{Plain as NoFault, Major}
use Rattle.spec_schedule.specs.declared.trace.Verb.{Verb}
use Rattle.spec_schedule.specs.declared.trace.Verb.TheVariants.{Accept, Test, Untest, Assemble, Cancel, Program}
use Rattle.spec_schedule.specs.declared.trace.TraceAnswer.{TraceAnswer}
use Rattle.spec_schedule.specs.declared.trace.TraceAnswer.TheVariants.{Done, Number}
use Rattle.spec_schedule.specs.declared.trace.TraceEvent.{TraceEvent}
use Rattle.spec_schedule.specs.declared.trace.TraceEvent.TheVariants.{Began, Step, Left, Tick, Act}
use Rattle.spec_schedule.specs.declared.trace.AuditTask.{AuditTask}
use Rattle.spec_schedule.specs.declared.trace.Table.{Table}

-- ---- tasks

-- A task is counted up if it was released and hasn't gone down since. Its counts: how many of its programs have
-- ended since its release, its region, whether a CPS of it is open, and how often it has gone down.
pub record Counted : Type 0 where
  pub up : Bool
  pub ended : ℕ
  pub region_count : ℕ
  pub cps_open : Bool
  pub downs : ℕ

abbrev pub uncounted : Counted
uncounted = record { up = false; ended = 0; region_count = 0; cps_open = false; downs = 0 }

abbrev pub is_open : Counted → Bool
is_open c = nat_lt 0 c.region_count || c.cps_open

-- a task that goes down has no region and no CPS
abbrev pub gone_down : Counted → Counted
gone_down c = record { up = false; ended = 0; region_count = 0; cps_open = false; downs = if c.up then c.downs + 1 else c.downs }

abbrev pub released : Counted → Counted
released c = record c { up = true; ended = 0 }

-- the region grows by 1 at an Up and falls by 1 at a Down, unless it is 0; a CPS is open from its start to its end
abbrev pub marked : TraceMark → Counted → Counted
marked Up c = record c { region_count = c.region_count + 1 }
marked Down c = record c { region_count = c.region_count - 1 }
marked Sync c = record c { cps_open = true }
marked SyncEnd c = record c { cps_open = false }
marked _ c = c

-- A program has ended, and the region with it. A task goes down with its last program; a continuous one is released
-- again in the same moment, also if the table says that it is inhibited. Of a run such a task never steps, so this is of
-- traces alone that are no run's.
abbrev pub after_last_program : AuditTask → Counted → Counted
after_last_program d c = if d.continuous then released (gone_down c) else gone_down c

abbrev pub program_ended : AuditTask → Counted → Counted
program_ended d c = if nat_lt (c.ended + 1) d.programs then record c { ended = c.ended + 1; region_count = 0 } else after_last_program d c

-- every task goes down at a major fault, a watchdog's too, and at a change to Program that is answered `Done`
abbrev pub stops : TraceEvent → Bool
stops (Step _ _ _ Major) = true
stops (Tick _ _ (Some t)) = true
stops (Act _ Program _ Done _) = true
stops _ = false

-- a task is released by its bit in the mask of a tick or an action, or by a trigger in a step without a fault, unless it
-- is inhibited
abbrev pub has_bit : ℕ → ℕ → Bool
has_bit mask t = nat_eq (bit_at mask t) 1

abbrev pub releases : AuditTask → TraceEvent → ℕ → Bool
releases d (Step _ _ (Trigger u) NoFault) t = nat_eq u t && not d.inhibited
releases d (Tick mask _ _) t = has_bit mask t
releases d (Act _ _ _ _ mask) t = has_bit mask t
releases d _ t = false

-- the task of a processor step, unless it is idle
abbrev pub stepping : TraceEvent → Option ℕ
stepping (Began t _ _) = Some t
stepping (Step t _ _ _) = Some t
stepping (Left t _ _) = Some t
stepping _ = None

abbrev pub is_task : ℕ → Option ℕ → Bool
is_task t None = false
is_task t (Some u) = nat_eq u t

abbrev pub steps_here : TraceEvent → ℕ → Bool
steps_here e t = is_task t (stepping e)

-- what a processor step of the task does to its counts
abbrev pub stepped : AuditTask → TraceEvent → Counted → Counted
stepped d (Began _ _ _) c = record c { region_count = 0 }
stepped d (Step _ _ mark _) c = marked mark c
stepped d (Left _ _ true) c = program_ended d c
stepped d _ c = c

-- what an event does to the counts of task t
abbrev pub counted : AuditTask → ℕ → TraceEvent → Counted → Counted
counted d t e c =
    if stops e then gone_down c else (let c' = if steps_here e t then stepped d e c else c in if releases d e t then released c' else c')

-- a task by its number, with what the laws ask of it and its counts
pub record CountedTask : Type 0 where
  pub number : ℕ
  pub task : AuditTask
  pub counts : Counted

-- the tasks of a table, each with its counts
abbrev pub counted_tasks : List AuditTask → List Counted → List CountedTask
counted_tasks tasks counts = map (λ x. record { number = x.0; task = x.1.0; counts = x.1.1 }) (enumerate_from 0 (zip tasks counts))

abbrev pub counted_all : List AuditTask → TraceEvent → List Counted → List Counted
counted_all tasks e counts = map (λ x. counted x.task x.number e x.counts) (counted_tasks tasks counts)

-- ---- versions

-- A program's numbers by the answers to its edits: the base text's, the merged text's, and whether the program is
-- testing. The merged text has the last accept's number, and an assemble makes it the base.
pub record Numbers : Type 0 where
  pub base : ℕ
  pub merged : ℕ
  pub testing : Bool

abbrev pub unedited : Numbers
unedited = record { base = 0; merged = 0; testing = false }

-- the number of the text that is selected: an accept while testing selects its own
abbrev pub selected_number : Numbers → ℕ
selected_number n = if n.testing then n.merged else n.base

abbrev pub edited : Verb → TraceAnswer → Numbers → Numbers
edited Accept (Number k) n = record n { merged = k }
edited Test Done n = record n { testing = true }
edited Untest Done n = record n { testing = false }
edited Assemble Done n = record n { base = n.merged; testing = false }
edited Cancel Done n = record n { testing = false }
edited _ _ n = n

abbrev pub edited_at : ℕ → TraceEvent → Numbers → Numbers
edited_at g (Act _ verb (Some h) answer _) n = if nat_eq g h then edited verb answer n else n
edited_at g _ n = n

abbrev pub edited_all : TraceEvent → List Numbers → List Numbers
edited_all e ns = map (λ x. edited_at x.0 e x.1) (enumerate_from 0 ns)

-- ---- along the trace

-- an event, and what is counted just before it
pub record CountedEvent : Type 0 where
  pub tasks : List Counted
  pub programs : List Numbers
  pub event : TraceEvent

abbrev pub counted_events_from : List AuditTask → List Counted → List Numbers → List TraceEvent → List CountedEvent
counted_events_from ds cs ns [] = []
counted_events_from ds cs ns (e ∷ es) = record { tasks = cs; programs = ns; event = e } ∷ counted_events_from ds (counted_all ds e cs) (edited_all e ns) es

abbrev pub counted_events : Table → List TraceEvent → List CountedEvent
counted_events table trace = counted_events_from table.tasks (map (λ d. uncounted) table.tasks) (replicate table.programs unedited) trace
