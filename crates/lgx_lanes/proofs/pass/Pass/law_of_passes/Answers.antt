-- By what its front has seen.
use Rattle.lgx_lanes.proofs.InStep.{has_seen}
use Rattle.lgx_lanes.proofs.pass.Pass.law_of_passes.Goals as goal

pub returns : goal.returns
returns g c =
    let pass = c.args.self.now in
    has_seen g.I.Input.project g.I.Input.script pass.lane pass.actions pass.front.events c.law_of_fronts.ensures pass.sees_actions
