-- Runs of several tasks.
use Rattle.std.specs.Prelude.{◌≡◌, [], ◌∷◌, codes, pos}
use Rattle.spec_base.specs.declared.limits.TheConstants.{LEAST_PRIORITY}
use Rattle.spec_language.specs.declared.types.Base.TheVariants.{Dint}
use Rattle.spec_tables.specs.declared.task.TaskKind.TheVariants.{Continuous, Periodic, Event as EventTask}
use Rattle.spec_machine.specs.Project.{Project}
use Rattle.test_cases.specs.Samples.{array, bool, continuous, program, task, with_watchdog, inhibited, plain, with_words, with_trigger, input, is_initially, lines, replay}

-- A periodic task goes before the continuous one, which then goes on where it was.
abbrev pub preemption : Project
preemption = plain (bool (codes "a") ∷ bool (codes "b") ∷ bool (codes "q") ∷ []) (continuous (codes "XIC(a)OTE(b);" ∷ []) ∷ task (codes "F") (Periodic 2) 5 (program (codes "Q") (codes "OTL(q);" ∷ []) ∷ []) ∷ []) (is_initially (codes "a") (pos 1) ∷ []) (codes "b" ∷ codes "q" ∷ [])

abbrev pub Preemption : Type 0
Preemption = replay preemption (lines (codes "mode run"
    ∷ codes "cpu 2"
    ∷ codes "tick 2"
    ∷ codes "cpu 4"
    ∷ codes "end"
    ∷ []))
    ≡ lines (codes "0 0 reply 31 ok"
    ∷ codes "0 1 begin T P 0"
    ∷ codes "2 3 begin F Q 0"
    ∷ codes "2 4 set q 1"
    ∷ codes "2 6 set b 1"
    ∷ codes "end 2 6 run lost 0"
    ∷ [])

-- Not while two regions are open, nor while one is.
abbrev pub nested_regions : Project
nested_regions = plain (bool (codes "a") ∷ bool (codes "b") ∷ bool (codes "q") ∷ []) (continuous (codes "UID()UID()UIE()UIE()OTE(b);" ∷ []) ∷ task (codes "F") (Periodic 2) 5 (program (codes "Q") (codes "OTL(q);" ∷ []) ∷ []) ∷ []) (is_initially (codes "a") (pos 1) ∷ []) (codes "b" ∷ codes "q" ∷ [])

abbrev pub NestedRegions : Type 0
NestedRegions = replay nested_regions (lines (codes "mode run"
    ∷ codes "cpu 2"
    ∷ codes "tick 2"
    ∷ codes "cpu 7"
    ∷ codes "end"
    ∷ []))
    ≡ lines (codes "0 0 reply 31 ok"
    ∷ codes "0 1 begin T P 0"
    ∷ codes "2 6 begin F Q 0"
    ∷ codes "2 7 set q 1"
    ∷ codes "2 9 set b 1"
    ∷ codes "end 2 9 run lost 0"
    ∷ [])

-- Tasks of one priority take turns at ticks; a second trigger of a task that is up is an overlap and queues no run.
abbrev pub turns_at_ticks : Project
turns_at_ticks = plain (bool (codes "a1") ∷ bool (codes "a2") ∷ bool (codes "b1") ∷ bool (codes "b2") ∷ []) (task (codes "A") (Periodic 10) 5 (program (codes "PA") (codes "OTL(a1)EVENT(B)EVENT(B)OTL(a2);" ∷ []) ∷ []) ∷ task (codes "B") EventTask 5 (program (codes "PB") (codes "OTL(b1)OTL(b2);" ∷ []) ∷ []) ∷ []) [] (codes "a1" ∷ codes "a2" ∷ codes "b1" ∷ codes "b2" ∷ [])

abbrev pub TurnsAtTicks : Type 0
TurnsAtTicks = replay turns_at_ticks (lines (codes "mode run"
    ∷ codes "cpu 1"
    ∷ codes "tick 10"
    ∷ codes "cpu 4"
    ∷ codes "tick 1"
    ∷ codes "cpu 2"
    ∷ codes "tick 1"
    ∷ codes "cpu 1"
    ∷ codes "tick 1"
    ∷ codes "cpu 4"
    ∷ codes "end"
    ∷ []))
    ≡ lines (codes "0 0 reply 31 ok"
    ∷ codes "10 2 begin A PA 0"
    ∷ codes "10 3 set a1 1"
    ∷ codes "10 5 fault minor 6/3 B -"
    ∷ codes "11 6 begin B PB 0"
    ∷ codes "11 7 set b1 1"
    ∷ codes "12 8 set a2 1"
    ∷ codes "13 9 set b2 1"
    ∷ codes "end 13 12 run lost 0"
    ∷ [])

-- A loop of jumps never ends its scan; the watchdog is a major fault of the task.
abbrev pub watchdog : Project
watchdog = plain [] (with_watchdog 3 (continuous (codes "LBL(l)JMP(l);" ∷ [])) ∷ []) [] []

abbrev pub Watchdog : Type 0
Watchdog = replay watchdog (lines (codes "mode run"
    ∷ codes "cpu 5"
    ∷ codes "tick 3"
    ∷ codes "end"
    ∷ []))
    ≡ lines (codes "0 0 reply 31 ok"
    ∷ codes "0 1 begin T P 0"
    ∷ codes "3 5 fault major 6/1 T -"
    ∷ codes "end 3 5 faulted lost 0"
    ∷ [])

-- A region that is still open at the end of the scan is closed there.
abbrev pub region_at_scan_end : Project
region_at_scan_end = plain [] (continuous (codes "UID();" ∷ []) ∷ task (codes "F") (Periodic 2) 5 (program (codes "Q") [] ∷ []) ∷ []) [] []

abbrev pub RegionAtScanEnd : Type 0
RegionAtScanEnd = replay region_at_scan_end (lines (codes "mode run"
    ∷ codes "cpu 2"
    ∷ codes "tick 2"
    ∷ codes "cpu 2"
    ∷ codes "end"
    ∷ []))
    ≡ lines (codes "0 0 reply 31 ok"
    ∷ codes "0 1 begin T P 0"
    ∷ codes "2 4 begin F Q 0"
    ∷ codes "end 2 4 run lost 0"
    ∷ [])

-- A task runs its programs in order; a region that is open at the end of the first is closed there.
abbrev pub two_programs : Project
two_programs = plain [] (task (codes "T") Continuous LEAST_PRIORITY (program (codes "P") (codes "UID();" ∷ []) ∷ program (codes "R") [] ∷ []) ∷ task (codes "F") (Periodic 2) 5 (program (codes "Q") [] ∷ []) ∷ []) [] []

abbrev pub TwoPrograms : Type 0
TwoPrograms = replay two_programs (lines (codes "mode run"
    ∷ codes "cpu 2"
    ∷ codes "tick 2"
    ∷ codes "cpu 5"
    ∷ codes "end"
    ∷ []))
    ≡ lines (codes "0 0 reply 31 ok"
    ∷ codes "0 1 begin T P 0"
    ∷ codes "2 4 begin F Q 0"
    ∷ codes "2 6 begin T R 0"
    ∷ codes "end 2 7 run lost 0"
    ∷ [])

-- A task that has a region open keeps its turn at a tick.
abbrev pub open_at_tick : Project
open_at_tick = plain (bool (codes "a1") ∷ bool (codes "a2") ∷ []) (task (codes "A") (Periodic 10) 5 (program (codes "PA") (codes "EVENT(B)UID()OTL(a1)UIE()OTL(a2);" ∷ []) ∷ []) ∷ task (codes "B") EventTask 5 (program (codes "PB") [] ∷ []) ∷ []) [] (codes "a1" ∷ codes "a2" ∷ [])

abbrev pub OpenAtTick : Type 0
OpenAtTick = replay open_at_tick (lines (codes "mode run"
    ∷ codes "tick 10"
    ∷ codes "cpu 3"
    ∷ codes "tick 1"
    ∷ codes "cpu 5"
    ∷ codes "end"
    ∷ []))
    ≡ lines (codes "0 0 reply 31 ok"
    ∷ codes "10 1 begin A PA 0"
    ∷ codes "11 4 set a1 1"
    ∷ codes "11 6 set a2 1"
    ∷ codes "11 8 begin B PB 0"
    ∷ codes "end 11 8 run lost 0"
    ∷ [])

-- The continuous task is released again at its end, and its watchdog counts from there.
abbrev pub released_again : Project
released_again = plain [] (with_watchdog 3 (continuous []) ∷ []) [] []

abbrev pub ReleasedAgain : Type 0
ReleasedAgain = replay released_again (lines (codes "mode run"
    ∷ codes "cpu 2"
    ∷ codes "tick 2"
    ∷ codes "cpu 2"
    ∷ codes "tick 2"
    ∷ codes "cpu 1"
    ∷ codes "end"
    ∷ []))
    ≡ lines (codes "0 0 reply 31 ok"
    ∷ codes "0 1 begin T P 0"
    ∷ codes "2 3 begin T P 0"
    ∷ codes "4 5 begin T P 0"
    ∷ codes "end 4 5 run lost 0"
    ∷ [])

-- A region that is never closed keeps the other task waiting; the watchdog ends it.
abbrev pub open_loop : Project
open_loop = plain (bool (codes "a") ∷ bool (codes "b") ∷ bool (codes "q") ∷ []) (with_watchdog 3 (continuous (codes "UID();" ∷ codes "LBL(l)JMP(l);" ∷ [])) ∷ task (codes "F") (Periodic 2) 5 (program (codes "Q") (codes "OTL(q);" ∷ []) ∷ []) ∷ []) (is_initially (codes "a") (pos 1) ∷ []) (codes "b" ∷ codes "q" ∷ [])

abbrev pub OpenLoop : Type 0
OpenLoop = replay open_loop (lines (codes "mode run"
    ∷ codes "cpu 6"
    ∷ codes "tick 3"
    ∷ codes "cpu 2"
    ∷ codes "end"
    ∷ []))
    ≡ lines (codes "0 0 reply 31 ok"
    ∷ codes "0 1 begin T P 0"
    ∷ codes "3 6 fault major 6/1 T -"
    ∷ codes "end 3 8 faulted lost 0"
    ∷ [])

-- Three tasks of one priority come up in the order C, A, B, and take turns at ticks; A, which has a region open at one, keeps its turn.
abbrev pub three_in_turn : Project
three_in_turn = with_words (array (codes "x") Dint 1 ∷ []) (task (codes "D") EventTask 2 (program (codes "PD")
    (codes "EVENT(C)EVENT(A)EVENT(B);" ∷ []) ∷ []) ∷ task (codes "A") EventTask 3 (program (codes "PA") (codes "UID()NOP();" ∷ []) ∷
    []) ∷ task (codes "B") EventTask 3 (program (codes "PB") [] ∷ []) ∷ task (codes "C") EventTask 3 (program (codes "PC") [] ∷
    []) ∷ []) (with_trigger 0 (input (codes "I") (codes "x")) ∷ []) [] []

abbrev pub ThreeInTurn : Type 0
ThreeInTurn = replay three_in_turn (lines (codes "mode run"
    ∷ codes "in I 0 1"
    ∷ codes "cpu 5"
    ∷ codes "tick 1"
    ∷ codes "cpu 2"
    ∷ codes "tick 1"
    ∷ codes "cpu 7"
    ∷ codes "end"
    ∷ []))
    ≡ lines (codes "0 0 reply 31 ok"
    ∷ codes "0 0 reply 31 ok"
    ∷ codes "0 1 begin D PD 0"
    ∷ codes "1 6 begin A PA 0"
    ∷ codes "2 10 begin B PB 0"
    ∷ codes "2 12 begin C PC 0"
    ∷ codes "end 2 14 run lost 0"
    ∷ [])

-- An inhibited periodic task never comes up: the continuous one goes on.
abbrev pub inhibited_periodic : Project
inhibited_periodic = plain (bool (codes "a") ∷ bool (codes "b") ∷ bool (codes "q") ∷ []) (continuous (codes "XIC(a)OTE(b);" ∷ []) ∷ inhibited (task (codes "F") (Periodic 2) 5 (program (codes "Q") (codes "OTL(q);" ∷ []) ∷ [])) ∷ []) (is_initially (codes "a") (pos 1) ∷ []) (codes "b" ∷ codes "q" ∷ [])

abbrev pub InhibitedPeriodic : Type 0
InhibitedPeriodic = replay inhibited_periodic (lines (codes "mode run"
    ∷ codes "cpu 2"
    ∷ codes "tick 2"
    ∷ codes "cpu 4"
    ∷ codes "end"
    ∷ []))
    ≡ lines (codes "0 0 reply 31 ok"
    ∷ codes "0 1 begin T P 0"
    ∷ codes "2 3 set b 1"
    ∷ codes "2 5 begin T P 0"
    ∷ codes "end 2 6 run lost 0"
    ∷ [])

-- An inhibited event task is triggered twice by EVENT and once by a word, without a release or an overlap; it was
-- prescanned, so that its one-shot's storage is set.
abbrev pub inhibited_event : Project
inhibited_event = with_words (array (codes "x") Dint 1 ∷ bool (codes "s") ∷ bool (codes "q") ∷ []) (continuous (codes "EVENT(E)EVENT(E);" ∷ []) ∷ inhibited (task (codes "E") EventTask 3 (program (codes "Q") (codes "ONS(s)OTL(q);" ∷ []) ∷ [])) ∷ []) (with_trigger 1 (input (codes "I") (codes "x")) ∷ []) [] (codes "s" ∷ codes "q" ∷ [])

abbrev pub InhibitedEvent : Type 0
InhibitedEvent = replay inhibited_event (lines (codes "mode run"
    ∷ codes "cpu 3"
    ∷ codes "in I 0 1"
    ∷ codes "cpu 2"
    ∷ codes "end"
    ∷ []))
    ≡ lines (codes "0 0 reply 31 ok"
    ∷ codes "0 0 set s 1"
    ∷ codes "0 1 begin T P 0"
    ∷ codes "0 3 reply 31 ok"
    ∷ codes "0 5 begin T P 0"
    ∷ codes "end 0 5 run lost 0"
    ∷ [])

-- An inhibited continuous task isn't released by the change to Run: the processor is idle until another task is due.
abbrev pub inhibited_continuous : Project
inhibited_continuous = plain (bool (codes "q") ∷ []) (inhibited (continuous (codes "OTL(q);" ∷ [])) ∷ task (codes "F") (Periodic 2) 5 (program (codes "Q") [] ∷ []) ∷ []) [] (codes "q" ∷ [])

abbrev pub InhibitedContinuous : Type 0
InhibitedContinuous = replay inhibited_continuous (lines (codes "mode run"
    ∷ codes "cpu 2"
    ∷ codes "tick 2"
    ∷ codes "cpu 3"
    ∷ codes "end"
    ∷ []))
    ≡ lines (codes "0 0 reply 31 ok"
    ∷ codes "2 3 begin F Q 0"
    ∷ codes "end 2 5 run lost 0"
    ∷ [])
