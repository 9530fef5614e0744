-- A run that goes on by more events, whose lines go into a log.
use Rattle.std.specs.Prelude.{◌≡◌, Bool, false, List, [], ◌∷◌, ◌++◌, replicate}
use Rattle.spec_machine.specs.declared.event.Event.{Event}
use Rattle.spec_machine.specs.Events.{is_accept}
use Rattle.spec_machine.specs.Project.{Project}
use Rattle.spec_machine.specs.ValidProject.{IsValidProject}
use Rattle.spec_machine.specs.Machine.{run}
use Rattle.spec_machine.specs.Report.{Stamped, steps_of, lines_from}
use Rattle.lgx_journal.specs.declared.runs.EventsLent.{EventsLent}
use Rattle.lgx_journal.specs.declared.runs.EventsLent.TheVariants as view
use Rattle.lgx_journal.specs.Runs.{seen_run}
use Rattle.lgx_watch.specs.Kept.{KeptLines, no_lines, with_lines}
use Rattle.lgx_record.specs.RunView.{RunView}
use Rattle.lgx_record.specs.IsRunOf.{IsRunOf}

-- the lines that the report has of more events
abbrev pub more_lines : Project → List Event → List Event → List Stamped
more_lines project events more = lines_from project.watches (run project events) (steps_of events) more

-- It is the run with these events more, and the log has their lines after those before.
pub record IsExtended (new : RunView) (before after : KeptLines) (project : Project) (events more : List Event) : Type 0 where
  pub run : IsRunOf new project (events ++ more)
  pub log : after ≡ with_lines before (more_lines project events more)

-- whichever run it was, it is that run with these events more now
abbrev pub Extends : RunView → RunView → KeptLines → KeptLines → List Event → Type 0
Extends old new before after more =
    (project : Project) (events : List Event) → IsRunOf old project events → IsExtended new before after project events more

-- an empty log keeps all lines of an event, and loses none
abbrev pub KeepsAnEvent : Type 0
KeepsAnEvent =
    (project : Project) (events : List Event) (e : Event) → IsValidProject project → with_lines no_lines (more_lines project events (e ∷ [])) ≡ record { lines = more_lines project events (e ∷ []); lost = 0 }

-- ---- what is taken: equal events, as a journal lends them

abbrev pub events_in : EventsLent → List Event
events_in run = replicate (seen_run run).count (seen_run run).event

-- whether they can come to want of memory: an accept can
abbrev pub is_accept_in : EventsLent → Bool
is_accept_in (view.Cpu n) = false
is_accept_in (view.Tick n) = false
is_accept_in (view.Act lane action) = is_accept action.now
