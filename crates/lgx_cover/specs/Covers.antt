-- What it means that a controller runs a journal and its instructions are counted.
use Rattle.std.specs.Prelude.{List}
use Rattle.spec_machine.specs.declared.event.Event.{Event}
use Rattle.spec_machine.specs.Project.{Project}
use Rattle.lgx_core.specs.Represents.{StandsFor}
use Rattle.lgx_cover.specs.declared.coverage.Coverage.{Coverage}
use Rattle.lgx_cover.specs.Executions.{begins, executions}
use Rattle.lgx_cover.specs.Tables.{KeepCounts}

-- The controller stands for the run of these events, and the tables keep the counts of its executions.
pub record Covers (c : Coverage) (project : Project) (events : List Event) : Type 0 where
  pub controller : StandsFor project events c.controller
  pub tables : KeepCounts c.tables (begins project events) (executions project events)

-- it covers some run of some project
pub record IsCoverage (c : Coverage) : Type 0 where
  pub project : Project
  pub events : List Event
  pub covers : Covers c project events
