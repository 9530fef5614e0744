-- Runs of the machine, as the laws of the schedule and scripts see them.
use Rattle.std.specs.Prelude.{ℕ, List, [], ◌∷◌, ◌++◌, map, Bool, if◌then◌else◌, Option, None, option_map, codes, pos}
use Rattle.spec_base.specs.declared.limits.TheConstants.{OWN_LANE}
use Rattle.spec_machine.specs.declared.event.Action.TheVariants.{WordIn, Test, ModeRun, ModeProgram, Clear}
use Rattle.spec_machine.specs.declared.event.RungEdit.TheVariants.{Replace}
use Rattle.spec_machine.specs.declared.event.Event.{Event}
use Rattle.spec_machine.specs.declared.event.Event.TheVariants.{Act}
use Rattle.spec_text.specs.Scripts.{Script, script}
use Rattle.spec_scan.specs.Position.{ProgramRungs}
use Rattle.spec_machine.specs.Project.{Project}
use Rattle.spec_machine.specs.State.{start}
use Rattle.spec_machine.specs.Machine.{OfAction, run}
use Rattle.spec_machine.specs.declared.reply.Reply.{Reply}
use Rattle.test_cases.specs.JournalCases.{cpu, tick, timed, accept}
use Rattle.test_cases.specs.Samples.{plain, continuous}
use Rattle.spec_schedule.specs.Legal.{verdicts}
use Rattle.spec_schedule.specs.TraceView.{table_of, view}
use Rattle.spec_schedule.specs.Counting.{is_task}
use Rattle.spec_schedule.specs.Stages.{Stage, scan_in_progress, stages, begun_by, sync_end}
use Rattle.test_cases.specs.CopyRuns.{whole_copy}

-- the verdicts on a run of the machine
abbrev pub verdicts_on : Project → List Event → List Bool
verdicts_on p journal = verdicts (table_of p) (view p journal)

abbrev pub run_mode : Event
run_mode = Act OWN_LANE ModeRun

abbrev pub preempted : List Event
preempted = run_mode ∷ cpu 2 ++ tick 2 ++ cpu 4

abbrev pub nested : List Event
nested = run_mode ∷ cpu 2 ++ tick 2 ++ cpu 7

abbrev pub turning : List Event
turning = run_mode ∷ cpu 1 ++ tick 10 ++ cpu 4 ++ tick 1 ++ cpu 2 ++ tick 1 ++ cpu 1 ++ tick 1 ++ cpu 4

-- ---- the rungs of a scan

-- a project with one rung, which an edit makes empty in the middle of a scan
abbrev pub one_nop : Project
one_nop = plain [] (continuous (codes "NOP();" ∷ []) ∷ []) [] []

abbrev pub emptied : List Event
emptied = run_mode ∷ cpu 1 ++ Act 0 (accept (codes "P") (codes "M") (Replace 0 (codes ";") ∷ [])) ∷ Act 0 (Test (codes "P")) ∷ cpu 3

abbrev pub rungs_at : Project → List Event → Option ProgramRungs
rungs_at p journal = option_map {U = ProgramRungs} (λ scan. scan.rungs) (scan_in_progress (run p journal) 0)

abbrev pub begun_at : Project → List Event → Option ProgramRungs
begun_at p journal = begun_by 0 (start p).books (stages p journal)

-- ---- a synchronous copy that is held against words and a mode

abbrev pub word : ℕ → ℕ → Event
word k v = Act 0 (WordIn (codes "In1") k (pos v))

abbrev pub held_copy : List Event
held_copy = run_mode ∷ cpu 3 ++ word 0 7 ∷ Act 0 ModeProgram ∷ cpu 1 ++ word 0 7 ∷ word 1 8 ∷ cpu 5

-- ---- doctored runs

-- the last element of the copy isn't copied
abbrev pub torn_stage : Stage → Stage
torn_stage x = if is_task 0 (sync_end x.entry) then record x { after = record x.after { image = x.before.image } } else x

abbrev pub torn : List Stage
torn = map torn_stage (stages whole_copy held_copy)

-- `clear` in Program is refused by M3; here with this reply, and with this tick after it
abbrev pub cleared : Reply → ℕ → Stage
cleared r tick =
    let s = start one_nop in
    record { before = s; entry = OfAction 0 Clear (record { reply = r; fault = None; released = 0 }); after = record s { tick = tick } }

-- ---- scripts

abbrev pub laneless : ℕ → ℕ → Script
laneless steps pace = script steps pace []

abbrev pub one_word : Script
one_word = script 10 5 ((timed 2 (WordIn (codes "In1") 0 (pos 1)) ∷ []) ∷ [])

abbrev pub word_at_end : List Event
word_at_end = run_mode ∷ cpu 5 ++ tick 1 ++ cpu 5 ++ tick 1 ++ word 0 1 ∷ []
