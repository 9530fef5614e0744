-- The recording as contracts see it.
use Rattle.std.specs.Prelude.{ℕ, List, ℤ}
use Rattle.lgx_num.specs.declared.place.Place.{Place}
use Rattle.spec_text.specs.ReportText.{Names}
use Rattle.lgx_journal.specs.Journals.{JournalView}
use Rattle.lgx_watch.specs.Kept.{KeptLines}
use Rattle.lgx_core.specs.ControllerView.{ControllerView}
use Rattle.lgx_record.specs.RunView.{RunView}

-- Its controller, the journal of what the controller did, the log of the report's lines, the names that they are written
-- with, the number of processor steps, and the watched places with the numbers that they had when they were last compared.
pub record RecordingView : Type 0 where
  pub controller : ControllerView
  pub journal : JournalView
  pub log : KeptLines
  pub names : Names
  pub steps : ℕ
  pub places : List Place
  pub values : List ℤ

-- a run with a journal and a log
abbrev pub recording_of : RunView → JournalView → KeptLines → RecordingView
recording_of run journal log = record {
  controller = run.controller;
  journal = journal;
  log = log;
  names = run.names;
  steps = run.steps;
  places = run.places;
  values = run.values;
}

-- all but its journal and its log
abbrev pub run_of : RecordingView → RunView
run_of r = record {
  controller = r.controller;
  names = r.names;
  steps = r.steps;
  places = r.places;
  values = r.values;
}
