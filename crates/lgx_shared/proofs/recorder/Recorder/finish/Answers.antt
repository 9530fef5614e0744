-- What is left is done as the run does it.
use Rattle.std.proofs.Common.{None, sym, ap, ◌∙◌}
use Rattle.lgx_shared.specs.Stages.{recorder_at}
use Rattle.lgx_shared.proofs.Stages.{followed_by_run, follows_with, goes_on_with}
use Rattle.lgx_shared.proofs.recorder.Recorder.finish.Goals as goal

pub returns-clause-follows : goal.returns-clause-follows
returns-clause-follows c =
    follows_with c.in-Closed.field-1 None c.in-Closed.run' c.finish.new.self c.args.self.now (ap recorder_at (sym c.in-Closed.is) ∙ c.self.view_is) c.finish.ensures.follows

pub returns-clause-goes_on : goal.returns-clause-goes_on
returns-clause-goes_on c =
    goes_on_with c.in-Closed.field-1 None c.in-Closed.run' c.finish.new.self c.args.self.now (ap recorder_at (sym c.in-Closed.is) ∙ c.self.view_is) c.finish.ensures.goes_on

pub returns-clause-complete : goal.returns-clause-complete
returns-clause-complete c = λ p s f.
    c.finish.ensures.complete p s (followed_by_run c.in-Closed.field-1 None c.in-Closed.run' c.finish.new.self c.args.self.now (ap recorder_at (sym c.in-Closed.is) ∙ c.self.view_is) p s f)

pub returns-clause-steps : goal.returns-clause-steps
returns-clause-steps c = λ p s f.
    c.finish.ensures.steps p s (followed_by_run c.in-Closed.field-1 None c.in-Closed.run' c.finish.new.self c.args.self.now (ap recorder_at (sym c.in-Closed.is) ∙ c.self.view_is) p s f)
