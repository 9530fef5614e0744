-- What it means that a recording records a journal of a project.
use Rattle.std.specs.Prelude.{◌≡◌, ◌+◌, List, ◌++◌, length}
use Rattle.spec_machine.specs.declared.event.Event.{Event}
use Rattle.spec_machine.specs.Project.{Project}
use Rattle.spec_machine.specs.Report.{report_lines, steps_of}
use Rattle.lgx_watch.specs.Kept.{kept_of}
use Rattle.lgx_record.specs.RecordingView.{RecordingView, run_of}
use Rattle.lgx_record.specs.IsRunOf.{IsRunOf}

-- The events are those of its journal. It is their run, and its log keeps the lines of their report.
pub record Records (v : RecordingView) (project : Project) (events : List Event) : Type 0 where
  pub journal : v.journal.events ≡ events
  pub log : v.log ≡ kept_of (report_lines project events)
  pub run : IsRunOf (run_of v) project events
  pub open run use {controller, names, steps, places, values, watched, none_hit}

-- it records some journal of some project
pub record IsRecording (v : RecordingView) : Type 0 where
  pub project : Project
  pub events : List Event
  pub records : Records v project events

-- whatever it recorded, it records these events more now
abbrev pub RecordsMore : RecordingView → RecordingView → List Event → Type 0
RecordsMore old new more = (project : Project) (events : List Event) → Records old project events → Records new project (events ++ more)

-- it has counted these events more
pub record HasCounted (old new : RecordingView) (more : List Event) : Type 0 where
  pub steps : new.steps ≡ old.steps + steps_of more
  pub spent : new.controller.spent ≡ old.controller.spent + length more

-- it is as before, but for the room that its journal has
abbrev pub IsUnchanged : RecordingView → RecordingView → Type 0
IsUnchanged old new = new ≡ record old { journal = record old.journal { spare = new.journal.spare } }
