-- What it means that a run is that of these events on a project.
use Rattle.std.specs.Prelude.{◌≡◌, List, map}
use Rattle.lgx_image.specs.Grains.{NoneIsHit}
use Rattle.spec_machine.specs.declared.event.Event.{Event}
use Rattle.spec_machine.specs.Project.{Project}
use Rattle.spec_machine.specs.Machine.{run}
use Rattle.spec_machine.specs.Report.{steps_of}
use Rattle.spec_text.specs.ReportText.{names_of}
use Rattle.lgx_core.specs.Represents.{StandsFor}
use Rattle.lgx_record.specs.RunView.{RunView}
use Rattle.lgx_record.specs.Changes.{numbers_at, AreWatched}

-- Its controller stands for the run of these events. The watched places have been compared with the image that they lead to,
-- and since then no word of theirs was hit.
pub record IsRunOf (v : RunView) (project : Project) (events : List Event) : Type 0 where
  pub controller : StandsFor project events v.controller
  pub names : v.names ≡ names_of project
  pub steps : v.steps ≡ steps_of events
  pub places : v.places ≡ map (λ w. w.place) project.watches
  pub values : v.values ≡ numbers_at (run project events).image v.places
  pub watched : AreWatched v.places v.controller.parts.image.watched
  pub none_hit : NoneIsHit v.controller.parts.image

-- it is a run of some project
pub record IsRun (v : RunView) : Type 0 where
  pub project : Project
  pub events : List Event
  pub run : IsRunOf v project events
