-- Traces with the laws that they keep or break. Each of the broken ones is a legal one with one or two events changed.
use Rattle.std.specs.Prelude.{ℕ, List, [], ◌∷◌, ◌++◌, replicate, Bool, true, false, Some, None}
use Rattle.spec_base.specs.declared.limits.TheConstants.{LEAST_PRIORITY, OWN_LANE}
use Rattle.spec_schedule.specs.declared.trace.TraceMark.TheVariants.{Plain as Unmarked, Up, Down, Trigger, Sync, SyncEnd}
use Rattle.spec_schedule.specs.declared.trace.StepFault.TheVariants.{Plain as NoFault, Minor}
use Rattle.spec_schedule.specs.declared.trace.Verb.TheVariants.{Accept, Test, Untest, Assemble, Cancel, Run}
use Rattle.spec_schedule.specs.declared.trace.TraceAnswer.TheVariants.{Done, Number, No}
use Rattle.spec_schedule.specs.declared.trace.TraceEvent.{TraceEvent}
use Rattle.spec_schedule.specs.declared.trace.TraceEvent.TheVariants.{Idle, Began, Step, Left, Tick, Act}
use Rattle.spec_schedule.specs.declared.trace.AuditTask.{AuditTask}
use Rattle.spec_schedule.specs.declared.trace.Table.{Table}

abbrev pub continuous : AuditTask
continuous = record { continuous = true; priority = LEAST_PRIORITY; programs = 1; inhibited = false }

abbrev pub of_priority : ℕ → AuditTask
of_priority p = record { continuous = false; priority = p; programs = 1; inhibited = false }

abbrev pub inhibited : AuditTask → AuditTask
inhibited t = record t { inhibited = true }

abbrev pub table_of : List AuditTask → Table
table_of tasks = record { tasks = tasks; programs = 2 }

abbrev pub mode_run : ℕ → TraceEvent
mode_run mask = Act OWN_LANE Run None Done mask

abbrev pub step : ℕ → TraceEvent
step t = Step t t Unmarked NoFault

abbrev pub quiet : TraceEvent
quiet = Tick 0 0 None

-- ---- a task of higher priority preempts the continuous task

abbrev pub two : Table
two = table_of (continuous ∷ of_priority 5 ∷ [])

abbrev pub preempts : List TraceEvent
preempts = mode_run 1 ∷ Began 0 0 0 ∷ step 0 ∷ quiet ∷ Tick 2 0 None ∷ Began 1 1 0 ∷ step 1 ∷ Left 1 1 true ∷ step 0 ∷ []

-- it waits for the end of the scan
abbrev pub waits : List TraceEvent
waits = mode_run 1 ∷ Began 0 0 0 ∷ step 0 ∷ quiet ∷ Tick 2 0 None ∷ step 0 ∷ Began 1 1 0 ∷ []

-- a task steps that wasn't released, and one is idle while a task is up
abbrev pub unreleased : List TraceEvent
unreleased = mode_run 1 ∷ Began 1 1 0 ∷ []

abbrev pub idles : List TraceEvent
idles = mode_run 1 ∷ Idle ∷ []

-- a step after a watchdog
abbrev pub outlives : List TraceEvent
outlives = mode_run 1 ∷ Began 0 0 0 ∷ Tick 0 0 (Some 0) ∷ step 0 ∷ []

-- ---- nested regions

abbrev pub nested : List TraceEvent
nested =
    mode_run 1 ∷ Began 0 0 0 ∷ Step 0 0 Up NoFault ∷ quiet ∷ Tick 2 0 None ∷ Step 0 0 Up NoFault ∷ Step 0 0 Down NoFault ∷ Step 0 0 Down NoFault ∷ Began 1 1 0 ∷ step 1 ∷ Left 1 1 true ∷ step 0 ∷ []

-- the first of two UIE opens the way
abbrev pub interrupted : List TraceEvent
interrupted = mode_run 1 ∷ Began 0 0 0 ∷ Step 0 0 Up NoFault ∷ quiet ∷ Tick 2 0 None ∷ Step 0 0 Up NoFault ∷ Step 0 0 Down NoFault ∷ Began 1 1 0 ∷ []

-- the second UIE doesn't
abbrev pub uninterrupted : List TraceEvent
uninterrupted =
    mode_run 1 ∷ Began 0 0 0 ∷ Step 0 0 Up NoFault ∷ quiet ∷ Tick 2 0 None ∷ Step 0 0 Up NoFault ∷ Step 0 0 Down NoFault ∷ Step 0 0 Down NoFault ∷ step 0 ∷ []

-- ---- a synchronous copy

abbrev pub copied : List TraceEvent
copied = mode_run 1 ∷ Began 0 0 0 ∷ Step 0 0 Sync NoFault ∷ quiet ∷ Tick 2 0 None ∷ step 0 ∷ Step 0 0 SyncEnd NoFault ∷ Began 1 1 0 ∷ []

abbrev pub copies_on : List TraceEvent
copies_on = mode_run 1 ∷ Began 0 0 0 ∷ Step 0 0 Sync NoFault ∷ quiet ∷ Tick 2 0 None ∷ step 0 ∷ Step 0 0 SyncEnd NoFault ∷ step 0 ∷ []

-- ---- equal priorities take turns at ticks, with an overlap

abbrev pub equals : Table
equals = table_of (of_priority 5 ∷ of_priority 5 ∷ [])

abbrev pub begun : List TraceEvent
begun = mode_run 0 ∷ Idle ∷ replicate 9 quiet ++ Tick 1 0 None ∷ Began 0 0 0 ∷ step 0 ∷ Step 0 0 (Trigger 1) NoFault ∷ Step 0 0 (Trigger 1) Minor ∷ quiet ∷ Began 1 1 0 ∷ step 1 ∷ []

abbrev pub turns : List TraceEvent
turns = begun ++ quiet ∷ step 0 ∷ quiet ∷ step 1 ∷ Left 1 1 true ∷ Left 0 0 true ∷ Idle ∷ []

-- a second run of the task that overlapped
abbrev pub queued : List TraceEvent
queued = begun ++ quiet ∷ step 0 ∷ quiet ∷ step 1 ∷ Left 1 1 true ∷ Began 1 1 0 ∷ []

-- a task goes on at a tick, and at the tick after it
abbrev pub continues : List TraceEvent
continues = begun ++ quiet ∷ step 1 ∷ []

-- two tasks alternate between ticks
abbrev pub alternates : List TraceEvent
alternates = begun ++ quiet ∷ quiet ∷ step 1 ∷ step 0 ∷ step 1 ∷ []

-- the turn isn't given if another tick follows, and not if the task has a region open
abbrev pub keeps_it : List TraceEvent
keeps_it = begun ++ Step 1 1 Up NoFault ∷ quiet ∷ step 1 ∷ Step 1 1 Down NoFault ∷ Left 1 1 true ∷ step 0 ∷ []

-- ---- inhibited tasks

abbrev pub one_inhibited : Table
one_inhibited = table_of (continuous ∷ inhibited (of_priority 5) ∷ [])

-- a trigger of it without a fault releases nothing, so that the other task goes on
abbrev pub not_triggered : List TraceEvent
not_triggered = mode_run 1 ∷ Began 0 0 0 ∷ Step 0 0 (Trigger 1) NoFault ∷ step 0 ∷ []

-- it steps after the trigger
abbrev pub triggered : List TraceEvent
triggered = mode_run 1 ∷ Began 0 0 0 ∷ Step 0 0 (Trigger 1) NoFault ∷ Began 1 1 0 ∷ []

-- a continuous task that the table says is inhibited, and that steps all the same: at its end it is counted up again
abbrev pub all_inhibited : Table
all_inhibited = table_of (inhibited continuous ∷ [])

abbrev pub ends_and_begins : List TraceEvent
ends_and_begins = mode_run 1 ∷ Began 0 0 0 ∷ Left 0 0 true ∷ Began 0 0 0 ∷ []

abbrev pub ends_and_idles : List TraceEvent
ends_and_idles = mode_run 1 ∷ Began 0 0 0 ∷ Left 0 0 true ∷ Idle ∷ []

-- ---- edits are selected in mid-scan

abbrev pub one : Table
one = table_of (continuous ∷ [])

abbrev pub edited : List TraceEvent
edited =
    mode_run 1 ∷ Began 0 0 0 ∷ step 0 ∷ Act 0 Accept (Some 0) (Number 1) 0 ∷ Act 0 Test (Some 0) Done 0 ∷ step 0 ∷ Left 0 0 true ∷ Began 0 0 1 ∷ step 0 ∷ step 0 ∷ Act 0 Untest (Some 0) Done 0 ∷ Left 0 0 true ∷ Began 0 0 0 ∷ []

-- a refused test, an edit of another program, and an assemble
abbrev pub assembled : List TraceEvent
assembled =
    mode_run 1 ∷ Act 0 Accept (Some 0) (Number 1) 0 ∷ Act 1 Test (Some 0) No 0 ∷ Act 0 Test (Some 1) Done 0 ∷ Began 0 0 0 ∷ Left 0 0 true ∷ Act 0 Assemble (Some 0) Done 0 ∷ Began 0 0 1 ∷ Act 0 Accept (Some 0) (Number 2) 0 ∷ Act 0 Cancel (Some 0) Done 0 ∷ Left 0 0 true ∷ Began 0 0 1 ∷ []

-- an accept while testing is selected at the next begin
abbrev pub accepted_again : List TraceEvent
accepted_again =
    mode_run 1 ∷ Act 0 Accept (Some 0) (Number 1) 0 ∷ Act 0 Test (Some 0) Done 0 ∷ Began 0 0 1 ∷ Act 0 Accept (Some 0) (Number 2) 0 ∷ Left 0 0 true ∷ Began 0 0 2 ∷ []

-- as if it ended testing
abbrev pub untested : List TraceEvent
untested =
    mode_run 1 ∷ Act 0 Accept (Some 0) (Number 1) 0 ∷ Act 0 Test (Some 0) Done 0 ∷ Began 0 0 1 ∷ Act 0 Accept (Some 0) (Number 2) 0 ∷ Left 0 0 true ∷ Began 0 0 0 ∷ []

-- the new rungs before their begin was asked for, and the old ones after it
abbrev pub early : List TraceEvent
early = mode_run 1 ∷ Act 0 Accept (Some 0) (Number 1) 0 ∷ Began 0 0 1 ∷ []

abbrev pub late : List TraceEvent
late = mode_run 1 ∷ Act 0 Accept (Some 0) (Number 1) 0 ∷ Act 0 Test (Some 0) Done 0 ∷ Began 0 0 0 ∷ []

-- ---- verdicts: the priority law, the two parts of the turn law, the version law, the law of regions

abbrev pub all_hold : List Bool
all_hold = true ∷ true ∷ true ∷ true ∷ true ∷ []

abbrev pub breaks_priority : List Bool
breaks_priority = false ∷ true ∷ true ∷ true ∷ true ∷ []

abbrev pub breaks_turn : List Bool
breaks_turn = true ∷ false ∷ true ∷ true ∷ true ∷ []

abbrev pub breaks_tick : List Bool
breaks_tick = true ∷ true ∷ false ∷ true ∷ true ∷ []

abbrev pub breaks_version : List Bool
breaks_version = true ∷ true ∷ true ∷ false ∷ true ∷ []

abbrev pub breaks_region : List Bool
breaks_region = true ∷ true ∷ true ∷ true ∷ false ∷ []
