use Rattle.std.proofs.Common.{◌≤◌, ℤ, List, length, sym, ◌∙◌, subst}
use Rattle.spec_machine.specs.Machine.{run}
use Rattle.lgx_core.specs.ControllerView.{ControllerView}
use Rattle.lgx_core.specs.Represents.{RepresentsController}
use Rattle.spec_board.specs.declared.snapshot.TheConstants.{MAX_VALUES}
use Rattle.lgx_stations.proofs.Showing.{few_values, shows_snapshot}
use Rattle.lgx_stations.proofs.reported.Reported.snapshot.Goals as goal

pub of-requires : goal.of-requires
of-requires c = subst (λ (vs : List ℤ). length vs ≤ MAX_VALUES) (sym c.values.ensures) (few_values c.args.self.now.run c.law_of_runs.ensures)

pub returns : goal.returns
returns c = λ p events h.
    let now = subst (λ (v : ControllerView). RepresentsController v (run p events)) (sym c.controller.ensures) h.run.controller.represents in
    shows_snapshot c.args.self.now.run p events c.now.result c.of.result h.run (c.now.ensures (run p events) now) (c.of.ensures ∙ c.values.ensures)
