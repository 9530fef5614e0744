-- What it means that a recorder follows a script on a project, and what every recorder keeps.
use Rattle.std.specs.Prelude.{◌≡◌, ◌+◌, ◌≤◌, List, [], ◌++◌, true, false, length, Option, Some, IfSome}
use Rattle.atomic_table.specs.Seated.{TableId}
use Rattle.spec_machine.specs.declared.event.Event.{Event}
use Rattle.spec_machine.specs.Project.{Project}
use Rattle.spec_text.specs.Scripts.{Script}
use Rattle.spec_schedule.specs.Partial.{IsComplete}
use Rattle.spec_lanes.specs.Turns.{is_spent, most_events}
use Rattle.spec_lanes.specs.Served.{IsServed}
use Rattle.spec_lanes.specs.Laws.{opening}
use Rattle.lgx_record.specs.Records.{Records}
use Rattle.lgx_history.specs.Histories.{HistoryView, history_view}
use Rattle.lgx_lanes.specs.Progress.{Progress}
use Rattle.lgx_shared.specs.RecorderView.{RecorderView}

-- the events that it recorded
abbrev pub journal_of : RecorderView → List Event
journal_of v = v.recording.journal.events

-- how far the lanes are
abbrev pub progress_of : RecorderView → Progress
progress_of v = record { counts = v.counts; events = journal_of v }

-- It was made for this script and this project. What it recorded is its journal, which is partial for its counts, and the
-- journal has room for every event that is still to come, and for two more: so a turn has room whatever it finds.
pub record Follows (project : Project) (script : Script) (v : RecorderView) : Type 0 where
  pub made : v.script ≡ Some script
  pub records : Records v.recording project (journal_of v)
  pub served : IsServed project script v.counts (journal_of v)
  pub room : most_events script + 2 ≤ length (journal_of v) + v.recording.journal.spare

-- what every recorder keeps: it records its journal of some project, and follows its script on it if it has one
pub record IsRecorder (v : RecorderView) : Type 0 where
  pub project : Project
  pub records : Records v.recording project (journal_of v)
  pub follows : IfSome v.script (λ script. Follows project script v)

-- it was just made for a script: no event but the opening `mode run` was recorded, and no turn was made
pub record IsNew (project : Project) (script : Script) (v : RecorderView) : Type 0 where
  pub follows : Follows project script v
  pub opened : journal_of v ≡ opening
  pub ran : v.ran ≡ false

-- there is a history, and nothing of it was seen
abbrev pub IsUnseen : Option HistoryView → Type 0
IsUnseen history = (name : TableId) × (history ≡ Some (history_view name []))

-- the script's steps were made and no CPS is open
abbrev pub HasSpent : Project → Script → RecorderView → Type 0
HasSpent project script v = is_spent project script (journal_of v) ≡ true

abbrev pub HasCompleted : Project → Script → RecorderView → Type 0
HasCompleted project script v = IsComplete project script (journal_of v)

-- what is recorded goes on from what was; the script, and whether it ran, are as before
pub record GoesOn (old new : RecorderView) : Type 0 where
  pub script : new.script ≡ old.script
  pub ran : new.ran ≡ old.ran
  pub rest : List Event
  pub journal : journal_of new ≡ journal_of old ++ rest
