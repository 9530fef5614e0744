-- An edit command's outcome is its reply.
use Rattle.lgx_core.proofs.Replies.{edit-gives, edit-goes}
use Rattle.lgx_core.proofs.controller.Controller.edit.Goals as goal

pub returns-in-Ok-clause-step : goal.returns-in-Ok-clause-step
returns-in-Ok-clause-step c = edit-gives c.args.self.now c.act.new.self c.args.lane c.args.action.now c.in-Ok.outcome c.in-Ok.ensures.step c.requires.edit

pub returns-in-Ok-clause-runs : goal.returns-in-Ok-clause-runs
returns-in-Ok-clause-runs c = edit-goes c.args.self.now c.act.new.self c.args.lane c.args.action.now c.in-Ok.outcome c.in-Ok.ensures.step c.requires.edit c.in-Ok.ensures.spent
