-- What each run of a project keeps, whatever its events are. First the laws of the schedule, then what a controller owes to its
-- tasks: laws that one breaks which does too little. Each is a proposition with a name; what it asks of an event is in the file of
-- its own from which it is taken here.
use Rattle.std.specs.Prelude.{List, [], IsTrue}
use Rattle.std.specs.List.{list_all}
use Rattle.spec_machine.specs.declared.event.Event.{Event}
use Rattle.spec_machine.specs.Project.{Project}
use Rattle.spec_machine.specs.ValidProject.{IsValidProject}
use Rattle.spec_schedule.specs.Legal.{Legal, KeepsRegions}
use Rattle.spec_schedule.specs.Stages.{ScansKeepRungs, CopiesAreWhole, RefusalsChangeNothing}
use Rattle.spec_schedule.specs.TraceView.{table_of, view}
use Rattle.spec_legal.specs.EditByEdit.{MergesEdits}
use Rattle.spec_legal.specs.LegalRuns.{counted_run}
use Rattle.spec_legal.specs.Merged.{BooksAreMerged}
use Rattle.spec_uses.specs.Changes.{ChangesHaveWritersOf}
use Rattle.spec_laws.specs.ActionReleases.{ActionsRelease}
use Rattle.spec_laws.specs.Answers.{AnswersAreRight}
use Rattle.spec_laws.specs.CheckedBooks.{BooksAreChecked}
use Rattle.spec_laws.specs.CountedBack.{each_with_past}
use Rattle.spec_laws.specs.Marks.{StepsAreMarked}
use Rattle.spec_laws.specs.Modes.{ModesAreKept}
use Rattle.spec_laws.specs.Orders.{ScansRunInOrder}
use Rattle.spec_laws.specs.RunStarts.{RunsStartAnew}
use Rattle.spec_laws.specs.Scans.{keeps_scans}
use Rattle.spec_laws.specs.TakenRungs.{AgainIsCounted}
use Rattle.spec_laws.specs.TickReleases.{keeps_releases}
use Rattle.spec_laws.specs.Triggers.{keeps_triggers}
use Rattle.spec_laws.specs.Watchdogs.{keeps_watchdogs}

-- ---- those that are counted along a run

-- Each step is of a task that is up, and of the highest priority unless it has a region or a copy open; tasks of one priority
-- take turns, from tick to tick; and a scan begins with the version that the edits before it select.
abbrev pub ScheduleIsLegal : Project → Type 0
ScheduleIsLegal p = (events : List Event) → Legal (table_of p) (view p events)

-- While a task has a region or a synchronous copy open, no other task steps.
abbrev pub RegionsAreKept : Project → Type 0
RegionsAreKept p = (events : List Event) → KeepsRegions (table_of p) (view p events)

-- A tick reports the first task that has been up for as many ticks as its watchdog has, and none where there is none.
abbrev pub WatchdogsRunOut : Project → Type 0
WatchdogsRunOut p = (events : List Event) → IsTrue (each_with_past (keeps_watchdogs p.tasks) [] (counted_run p events))

-- A tick at which no watchdog runs out releases each periodic task that is due and down, and reports each that is due and up.
abbrev pub TicksRelease : Project → Type 0
TicksRelease p = (events : List Event) → IsTrue (each_with_past (keeps_releases p.tasks) [] (counted_run p events))

-- An EVENT overlaps exactly if its task is up and isn't inhibited.
abbrev pub TriggersOverlap : Project → Type 0
TriggersOverlap p = (events : List Event) → IsTrue (list_all (keeps_triggers p.tasks) (counted_run p events))

-- A task that steps begins its next program if none of its program scans is in progress, and else goes on in that one.
abbrev pub ScansFollow : Project → Type 0
ScansFollow p = (events : List Event) → IsTrue (each_with_past (keeps_scans p.schedule) [] (counted_run p events))

-- ---- all of them

pub record IsLawful (p : Project) : Type 0 where
  -- who steps: priority, turns, and the number of the version
  pub legal : ScheduleIsLegal p
  -- what is open isn't interrupted
  pub regions : RegionsAreKept p
  -- a scan runs to its end the rungs that were selected when it began
  pub rungs : ScansKeepRungs p
  -- a synchronous copy has the bytes of one moment
  pub copies : CopiesAreWhole p
  -- what is refused changes nothing
  pub refusals : RefusalsChangeNothing p
  -- and it is refused for the first cause that there is, and only then
  pub answers : AnswersAreRight p
  -- watchdogs, and releases by ticks, by EVENT and by actions
  pub watchdogs : WatchdogsRunOut p
  pub releases : TicksRelease p
  pub triggers : TriggersOverlap p
  pub actions : ActionsRelease p
  -- which mode it is in, and what a change to Run begins with
  pub modes : ModesAreKept p
  pub run_starts : RunsStartAnew p
  -- which program a task scans, which instructions in which order, and what each of them marks
  pub scans : ScansFollow p
  pub order : ScansRunInOrder p
  pub marks : StepsAreMarked p
  -- the merged rungs of a program are its base with its accepted edits, and their code is what was checked of them
  pub merged : BooksAreMerged p
  pub checked : BooksAreChecked p
  pub merges : MergesEdits
  -- which edit is refused since its rung is taken
  pub retaken : AgainIsCounted
  -- what may change a tag, as long as no edit is accepted
  pub changes : ChangesHaveWritersOf p

-- of each valid project
abbrev pub RunsAreLawful : Type 0
RunsAreLawful = (p : Project) → IsValidProject p → IsLawful p
