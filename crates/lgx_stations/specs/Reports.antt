-- What it means that a log has the report of a run.
use Rattle.std.specs.Prelude.{◌≡◌, List}
use Rattle.spec_machine.specs.declared.event.Event.{Event}
use Rattle.spec_machine.specs.Project.{Project}
use Rattle.spec_machine.specs.Report.{report_lines}
use Rattle.lgx_watch.specs.Kept.{kept_of}
use Rattle.lgx_record.specs.IsRunOf.{IsRunOf}
use Rattle.lgx_stations.specs.declared.reported.Reported.{Reported}

-- It is the run of these events, and the log keeps the lines of their report.
pub record Reports (r : Reported) (project : Project) (events : List Event) : Type 0 where
  pub run : IsRunOf r.run project events
  pub log : r.log ≡ kept_of (report_lines project events)
