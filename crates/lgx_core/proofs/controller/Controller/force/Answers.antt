-- A command on forces needs no memory, and its outcome is its reply, whichever lane it has.
use Rattle.lgx_core.proofs.Replies.{force-no_accept, force-gives, force-goes}
use Rattle.lgx_core.proofs.controller.Controller.force.Goals as goal

pub unreachable-requires : goal.unreachable-requires
unreachable-requires c = force-no_accept c.args.action.now c.requires.force c.in-Err.ensures.memory

pub returns-clause-step : goal.returns-clause-step
returns-clause-step c = force-gives c.args.self.now c.act.new.self 0 c.args.action.now c.in-Ok.outcome c.in-Ok.ensures.step c.requires.force

pub returns-clause-runs : goal.returns-clause-runs
returns-clause-runs c = force-goes c.args.self.now c.act.new.self 0 c.args.action.now c.in-Ok.outcome c.in-Ok.ensures.step c.requires.force c.in-Ok.ensures.spent
