-- Stages and books with the duties that they keep or break: real ones, and those of lazy controllers.
use Rattle.std.specs.Prelude.{ℕ, [], ◌∷◌, ◌++◌, codes, pos, Option, None}
use Rattle.spec_language.specs.declared.types.Base.TheVariants.{Dint}
use Rattle.spec_tables.specs.declared.fault.Fault.{Fault}
use Rattle.spec_tables.specs.declared.task.TaskKind.TheVariants.{Event as EventTask}
use Rattle.spec_tables.specs.Tasks.{put_up, stop}
use Rattle.spec_machine.specs.declared.event.Action.{Action}
use Rattle.spec_machine.specs.declared.event.Action.TheVariants.{WordIn, Test, Cancel}
use Rattle.spec_machine.specs.declared.event.Event.{Event}
use Rattle.spec_machine.specs.declared.event.Event.TheVariants.{Tick, Act}
use Rattle.spec_machine.specs.declared.event.RungEdit.TheVariants.{Replace}
use Rattle.spec_machine.specs.declared.reply.Reply.TheVariants.{Done}
use Rattle.spec_machine.specs.Edits.{Book, book_at}
use Rattle.spec_machine.specs.Machine.{TraceEntry, OfAction, step, run}
use Rattle.spec_machine.specs.Project.{Project}
use Rattle.spec_machine.specs.State.{State, start}
use Rattle.spec_schedule.specs.Stages.{Stage}
use Rattle.spec_laws.specs.ActionReleases.{KeepsActionReleases}
use Rattle.spec_laws.specs.Answers.{IsAnsweredRightly}
use Rattle.spec_laws.specs.Modes.{KeepsMode}
use Rattle.spec_laws.specs.RunStarts.{KeepsRunStart}
use Rattle.test_cases.specs.JournalCases.{accept}
use Rattle.test_cases.specs.LawRuns.{one_nop, run_mode}
use Rattle.test_cases.specs.Samples.{array, bool, continuous, program, task, with_watchdog, with_words, with_trigger, input}
use Rattle.test_cases.specs.TaskRuns.{inhibited_event}

-- ---- the duties of one stage

-- all of them, and all but one
abbrev pub KeepsStageDuties : Stage → Type 0
KeepsStageDuties x = IsAnsweredRightly x × KeepsActionReleases x × KeepsMode x × KeepsRunStart x

abbrev pub BreaksAnswers : Stage → Type 0
BreaksAnswers x = (IsAnsweredRightly x → ⊥) × KeepsActionReleases x × KeepsMode x × KeepsRunStart x

abbrev pub BreaksReleases : Stage → Type 0
BreaksReleases x = IsAnsweredRightly x × (KeepsActionReleases x → ⊥) × KeepsMode x × KeepsRunStart x

abbrev pub BreaksModes : Stage → Type 0
BreaksModes x = IsAnsweredRightly x × KeepsActionReleases x × (KeepsMode x → ⊥) × KeepsRunStart x

abbrev pub BreaksRunStart : Stage → Type 0
BreaksRunStart x = IsAnsweredRightly x × KeepsActionReleases x × KeepsMode x × (KeepsRunStart x → ⊥)

-- ---- real stages

-- a continuous task with a watchdog of one tick, and an event task that the one word of an input triggers; its one shot is
-- set by the prescan
abbrev pub triggered_event : Project
triggered_event = with_words (array (codes "x") Dint 1 ∷ bool (codes "s") ∷ bool (codes "q") ∷ []) (with_watchdog 1 (continuous (codes "NOP();" ∷ [])) ∷ task (codes "E") EventTask 3 (program (codes "Q") (codes "ONS(s)OTL(q);" ∷ []) ∷ []) ∷ []) (with_trigger 1 (input (codes "I") (codes "x")) ∷ []) [] []

abbrev pub stage_at : State → Event → Stage
stage_at s e = let x = step s e in record { before = s; entry = x.answer; after = x.state }

abbrev pub word : Event
word = Act 0 (WordIn (codes "I") 0 (pos 5))

abbrev pub comes_to_run : Stage
comes_to_run = stage_at (start triggered_event) run_mode

-- the event task comes up at its word, and overlaps at the next
abbrev pub triggers : Stage
triggers = stage_at comes_to_run.after word

abbrev pub overlaps : Stage
overlaps = stage_at triggers.after word

-- in Program a word releases nobody, and an inhibited task isn't released
abbrev pub in_program : Stage
in_program = stage_at (start triggered_event) word

abbrev pub of_inhibited : Stage
of_inhibited = stage_at (run inhibited_event (run_mode ∷ [])) word

-- the watchdog runs out
abbrev pub barks : Stage
barks = stage_at comes_to_run.after Tick

-- ---- lazy ones

-- the action is done, with this fault and this mask
abbrev pub done : Option Fault → ℕ → TraceEntry → TraceEntry
done f mask (OfAction lane a o) = OfAction lane a (record { reply = Done; fault = f; released = mask })
done f mask e = e

abbrev pub as_if : Stage → Option Fault → ℕ → State → Stage
as_if x f mask after = record { before = x.before; entry = done f mask x.entry; after = after }

-- the trigger is ignored
abbrev pub ignores_trigger : Stage
ignores_trigger = as_if triggers None 0 (record triggers.after { table = triggers.before.table; progress = triggers.before.progress })

-- it is named, but nobody comes up
abbrev pub only_tells : Stage
only_tells = record triggers { after = record triggers.after { table = triggers.before.table; progress = triggers.before.progress } }

-- the overlap isn't named
abbrev pub hides_overlap : Stage
hides_overlap = as_if overlaps None 0 (record overlaps.after { faults = overlaps.before.faults })

-- an inhibited task comes up
abbrev pub releases_inhibited : Stage
releases_inhibited = as_if of_inhibited None 2 (record of_inhibited.after { table = put_up 1 0 of_inhibited.after.table })

-- nobody is released at the change to Run
abbrev pub runs_without_release : Stage
runs_without_release = as_if comes_to_run None 0 (record comes_to_run.after { table = stop comes_to_run.after.table })

-- no program is prescanned
abbrev pub runs_without_prescan : Stage
runs_without_prescan = record comes_to_run { after = record comes_to_run.after { image = comes_to_run.before.image } }

-- the watchdog's task is named, and the controller goes on in Run; or its tasks stay up
abbrev pub goes_on : Stage
goes_on = record barks { after = record barks.before { tick = 1; faults = barks.after.faults } }

abbrev pub stays_up : Stage
stays_up = record barks { after = record barks.after { table = barks.before.table } }

-- ---- a controller that refuses nothing

abbrev pub takes : State → ℕ → Action → Stage
takes s lane a = record { before = s; entry = OfAction lane a (record { reply = Done; fault = None; released = 0 }); after = s }

-- a word of no connection; a test with nothing accepted; another lane's edits
abbrev pub takes_any_word : Stage
takes_any_word = takes (start one_nop) 0 (WordIn (codes "Zz") 0 (pos 1))

abbrev pub tests_nothing : Stage
tests_nothing = takes (start one_nop) 0 (Test (codes "P"))

abbrev pub accepted : State
accepted = run one_nop (Act 0 (accept (codes "P") (codes "M") (Replace 0 (codes ";") ∷ [])) ∷ [])

abbrev pub takes_any_client : Stage
takes_any_client = takes accepted 1 (Cancel (codes "P"))

-- ---- books

-- a book whose accepted edit makes its rung empty
abbrev pub book : Book
book = book_at accepted.books 0

-- the merged rungs are the base's, without the edit
abbrev pub unmerged : Book
unmerged = record book { merged = book.base }

-- the same edit twice
abbrev pub taken_twice : Book
taken_twice = record book { accepted = book.accepted ++ book.accepted }
