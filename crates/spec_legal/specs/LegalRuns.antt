-- Every run of a valid project is legal, by what is seen of it.
use Rattle.std.specs.Prelude.{IsTrue, List}
use Rattle.std.specs.List.{list_all}
use Rattle.spec_machine.specs.declared.event.Event.{Event}
use Rattle.spec_machine.specs.Project.{Project}
use Rattle.spec_machine.specs.ValidProject.{IsValidProject}
use Rattle.spec_schedule.specs.Counting.{CountedEvent, counted_events}
use Rattle.spec_schedule.specs.Legal.{each_from, keeps_priority, keeps_turn, gives_way, keeps_version, Legal, KeepsRegions}
use Rattle.spec_schedule.specs.Stages.{ScansKeepRungs, RefusalsChangeNothing}
use Rattle.spec_schedule.specs.TraceView.{table_of, view}

-- what is counted along a journal's trace
abbrev pub counted_run : Project → List Event → List CountedEvent
counted_run p journal = counted_events (table_of p) (view p journal)

-- the priority law
abbrev pub RunsKeepPriority : Type 0
RunsKeepPriority = (p : Project) (journal : List Event) → IsValidProject p → IsTrue (list_all (keeps_priority (table_of p)) (counted_run p journal))

-- the turn law between ticks
abbrev pub RunsKeepTurns : Type 0
RunsKeepTurns = (p : Project) (journal : List Event) → IsValidProject p → IsTrue (each_from (keeps_turn (table_of p)) (counted_run p journal))

-- the turn law over ticks
abbrev pub RunsGiveWay : Type 0
RunsGiveWay = (p : Project) (journal : List Event) → IsValidProject p → IsTrue (each_from (gives_way (table_of p)) (counted_run p journal))

-- all that a trace shows by itself
abbrev pub RunsAreLegal : Type 0
RunsAreLegal = (p : Project) (journal : List Event) → IsValidProject p → Legal (table_of p) (view p journal)

-- the law of regions
abbrev pub RunsKeepRegions : Type 0
RunsKeepRegions = (p : Project) (journal : List Event) → IsValidProject p → KeepsRegions (table_of p) (view p journal)

-- the version law, by the numbers
abbrev pub RunsKeepVersions : Type 0
RunsKeepVersions = (p : Project) (journal : List Event) → IsValidProject p → IsTrue (list_all keeps_version (counted_run p journal))

-- the version law, by the rungs; this is so of any project
abbrev pub RunsKeepRungs : Type 0
RunsKeepRungs = (p : Project) → ScansKeepRungs p

-- the refusal law; this too is so of any project
abbrev pub RunsRefuseRightly : Type 0
RunsRefuseRightly = (p : Project) → RefusalsChangeNothing p
