-- A run as contracts see it.
use Rattle.std.specs.Prelude.{ℕ, List, ℤ}
use Rattle.lgx_num.specs.declared.place.Place.{Place}
use Rattle.spec_text.specs.ReportText.{Names}
use Rattle.lgx_core.specs.ControllerView.{ControllerView}

-- Its controller, the names that the report's lines are written with, the number of processor steps, and the watched places
-- with the numbers that they had when they were last compared.
pub record RunView : Type 0 where
  pub controller : ControllerView
  pub names : Names
  pub steps : ℕ
  pub places : List Place
  pub values : List ℤ

abbrev pub run_view : ControllerView → Names → ℕ → List Place → List ℤ → RunView
run_view controller names steps places values = record {
  controller = controller;
  names = names;
  steps = steps;
  places = places;
  values = values;
}
