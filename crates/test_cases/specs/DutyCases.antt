-- Traces with the duties that they keep or break: those of a lazy controller, each with one or two events changed.
use Rattle.std.specs.Prelude.{ℕ, List, [], ◌∷◌, ◌++◌, length, sum_by, Bool, true, false, Some, None}
use Rattle.std.specs.List.{list_all}
use Rattle.spec_base.specs.declared.limits.TheConstants.{LEAST_PRIORITY, OWN_LANE}
use Rattle.spec_tables.specs.declared.task.TaskDef.{TaskDef}
use Rattle.spec_tables.specs.declared.task.TaskKind.TheVariants.{Continuous, Periodic, Event}
use Rattle.spec_schedule.specs.declared.trace.TraceMark.TheVariants.{Plain as Unmarked, Trigger}
use Rattle.spec_schedule.specs.declared.trace.StepFault.TheVariants.{Plain as NoFault, Minor}
use Rattle.spec_schedule.specs.declared.trace.TraceAnswer.TheVariants.{Done}
use Rattle.spec_schedule.specs.declared.trace.TraceEvent.{TraceEvent}
use Rattle.spec_schedule.specs.declared.trace.TraceEvent.TheVariants.{Began, Step, Left, Tick, Act}
use Rattle.spec_schedule.specs.declared.trace.Table.{Table}
use Rattle.spec_schedule.specs.declared.trace.Verb.TheVariants.{Program}
use Rattle.spec_schedule.specs.Counting.{counted_events}
use Rattle.spec_schedule.specs.TraceView.{audit_tasks}
use Rattle.spec_laws.specs.CountedBack.{each_with_past}
use Rattle.spec_laws.specs.Scans.{keeps_scans}
use Rattle.spec_laws.specs.TickReleases.{keeps_releases}
use Rattle.spec_laws.specs.Triggers.{keeps_triggers}
use Rattle.spec_laws.specs.Watchdogs.{keeps_watchdogs}
use Rattle.test_cases.specs.LegalCases.{mode_run, quiet}

-- a continuous task, a periodic one of 2 ticks, and an event task; watchdogs of 5, 3 and 3 ticks
abbrev pub tasks : List TaskDef
tasks =
    record { kind = Continuous; priority = LEAST_PRIORITY; watchdog = 5; inhibited = false } ∷ record { kind = Periodic 2; priority = 5; watchdog = 3; inhibited = false } ∷ record { kind = Event; priority = 3; watchdog = 3; inhibited = false } ∷ []

abbrev pub schedule : List (List ℕ)
schedule = (0 ∷ []) ∷ (1 ∷ []) ∷ (2 ∷ []) ∷ []

abbrev pub table_of : List TaskDef → List (List ℕ) → Table
table_of tasks schedule = record { tasks = audit_tasks tasks schedule; programs = sum_by length schedule }

abbrev pub table : Table
table = table_of tasks schedule

-- whether the law of watchdogs holds of a trace, the law of releases at ticks, the law of triggers, and the law of scans
abbrev pub duties_of : List TaskDef → List (List ℕ) → List TraceEvent → List Bool
duties_of tasks schedule trace =
    let xs = counted_events (table_of tasks schedule) trace in
    each_with_past (keeps_watchdogs tasks) [] xs ∷ each_with_past (keeps_releases tasks) [] xs ∷ list_all (keeps_triggers tasks) xs ∷ each_with_past (keeps_scans schedule) [] xs ∷ []

abbrev pub duties : List TraceEvent → List Bool
duties trace = duties_of tasks schedule trace

abbrev pub all_kept : List Bool
all_kept = true ∷ true ∷ true ∷ true ∷ []

abbrev pub breaks_watchdogs : List Bool
breaks_watchdogs = false ∷ true ∷ true ∷ true ∷ []

abbrev pub breaks_releases : List Bool
breaks_releases = true ∷ false ∷ true ∷ true ∷ []

abbrev pub breaks_triggers : List Bool
breaks_triggers = true ∷ true ∷ false ∷ true ∷ []

abbrev pub breaks_scans : List Bool
breaks_scans = true ∷ true ∷ true ∷ false ∷ []

-- ---- releases

-- the continuous task ends between two ticks, so that its watchdog doesn't run out
abbrev pub turn_of_continuous : List TraceEvent
turn_of_continuous = Began 0 0 0 ∷ Left 0 0 true ∷ []

abbrev pub turn_of_periodic : List TraceEvent
turn_of_periodic = Began 1 1 0 ∷ Left 1 1 true ∷ []

-- every second tick releases the periodic task
abbrev pub releases : List TraceEvent
releases = mode_run 1 ∷ quiet ∷ Tick 2 0 None ∷ turn_of_periodic ++ turn_of_continuous ++ quiet ∷ Tick 2 0 None ∷ turn_of_periodic ++ []

-- it is never released
abbrev pub never_releases : List TraceEvent
never_releases = mode_run 1 ∷ quiet ∷ quiet ∷ turn_of_continuous ++ quiet ∷ quiet ∷ []

-- it is released a tick early
abbrev pub releases_early : List TraceEvent
releases_early = mode_run 1 ∷ Tick 2 0 None ∷ []

-- it is up when it is due, and overlaps; a lazy controller doesn't report it
abbrev pub overlaps : List TraceEvent
overlaps = mode_run 1 ∷ quiet ∷ Tick 2 0 None ∷ quiet ∷ Tick 0 2 None ∷ []

abbrev pub hides_overlap : List TraceEvent
hides_overlap = mode_run 1 ∷ quiet ∷ Tick 2 0 None ∷ quiet ∷ quiet ∷ []

-- periods are counted from the last change to Run
abbrev pub counts_anew : List TraceEvent
counts_anew = mode_run 1 ∷ quiet ∷ Act OWN_LANE Program None Done 0 ∷ quiet ∷ mode_run 1 ∷ quiet ∷ Tick 2 0 None ∷ []

abbrev pub counts_on : List TraceEvent
counts_on = mode_run 1 ∷ quiet ∷ Act OWN_LANE Program None Done 0 ∷ mode_run 1 ∷ Tick 2 0 None ∷ []

-- ---- watchdogs

-- the continuous task is up for 5 ticks
abbrev pub runs_out : List TraceEvent
runs_out = mode_run 1 ∷ quiet ∷ Tick 2 0 None ∷ turn_of_periodic ++ quiet ∷ Tick 2 0 None ∷ turn_of_periodic ++ Tick 0 0 (Some 0) ∷ []

-- nobody watches
abbrev pub no_watchdog : List TraceEvent
no_watchdog = mode_run 1 ∷ quiet ∷ Tick 2 0 None ∷ turn_of_periodic ++ quiet ∷ Tick 2 0 None ∷ turn_of_periodic ++ quiet ∷ []

-- a tick early
abbrev pub barks_early : List TraceEvent
barks_early = mode_run 1 ∷ quiet ∷ Tick 2 0 None ∷ turn_of_periodic ++ quiet ∷ Tick 0 0 (Some 0) ∷ []

-- two run out in one tick: the first of the table is named, and not the second
abbrev pub both_out : List TraceEvent
both_out = mode_run 1 ∷ quiet ∷ Tick 2 0 None ∷ quiet ∷ Tick 0 2 None ∷ Tick 0 0 (Some 0) ∷ []

abbrev pub second_told : List TraceEvent
second_told = mode_run 1 ∷ quiet ∷ Tick 2 0 None ∷ quiet ∷ Tick 0 2 None ∷ Tick 0 0 (Some 1) ∷ []

-- ---- triggers

-- the second EVENT overlaps
abbrev pub triggers_twice : List TraceEvent
triggers_twice = mode_run 1 ∷ Began 0 0 0 ∷ Step 0 0 (Trigger 2) NoFault ∷ Step 0 0 (Trigger 2) Minor ∷ []

abbrev pub second_untold : List TraceEvent
second_untold = mode_run 1 ∷ Began 0 0 0 ∷ Step 0 0 (Trigger 2) NoFault ∷ Step 0 0 (Trigger 2) NoFault ∷ []

abbrev pub first_refused : List TraceEvent
first_refused = mode_run 1 ∷ Began 0 0 0 ∷ Step 0 0 (Trigger 2) Minor ∷ []

-- ---- scans

-- the continuous task alone, with two programs
abbrev pub one_task : List TaskDef
one_task = record { kind = Continuous; priority = LEAST_PRIORITY; watchdog = 500; inhibited = false } ∷ []

abbrev pub two_programs : List TraceEvent → List Bool
two_programs trace = duties_of one_task ((0 ∷ 1 ∷ []) ∷ []) trace

-- each program in turn, and then the first again
abbrev pub in_turn : List TraceEvent
in_turn =
    mode_run 1 ∷ Began 0 0 0 ∷ Step 0 0 Unmarked NoFault ∷ Left 0 0 false ∷ Left 0 0 true ∷ Began 0 1 0 ∷ Left 0 1 true ∷ Began 0 0 0 ∷ []

-- a scan is begun anew at a change of mode, and left where it was
abbrev pub begins_anew : List TraceEvent
begins_anew = mode_run 1 ∷ Began 0 0 0 ∷ Left 0 0 true ∷ Began 0 1 0 ∷ Act OWN_LANE Program None Done 0 ∷ mode_run 1 ∷ Began 0 0 0 ∷ []

abbrev pub goes_on_after_program : List TraceEvent
goes_on_after_program = mode_run 1 ∷ Began 0 0 0 ∷ Act OWN_LANE Program None Done 0 ∷ mode_run 1 ∷ Step 0 0 Unmarked NoFault ∷ []

-- it begins and begins, and does nothing
abbrev pub only_begins : List TraceEvent
only_begins = mode_run 1 ∷ Began 0 0 0 ∷ Began 0 0 0 ∷ Began 0 0 0 ∷ []

-- the second program is never scanned
abbrev pub first_only : List TraceEvent
first_only = mode_run 1 ∷ Began 0 0 0 ∷ Left 0 0 true ∷ Began 0 0 0 ∷ Left 0 0 true ∷ []

-- an instruction of a program that hasn't begun
abbrev pub steps_at_once : List TraceEvent
steps_at_once = mode_run 1 ∷ Began 0 0 0 ∷ Left 0 0 true ∷ Step 0 1 Unmarked NoFault ∷ []
