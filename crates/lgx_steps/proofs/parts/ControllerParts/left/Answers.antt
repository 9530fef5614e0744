use Rattle.lgx_steps.specs.PartsView.{view_of}
use Rattle.lgx_steps.proofs.AfterEffects.{gives-left, gives-stayed}
use Rattle.lgx_steps.proofs.parts.ControllerParts.left.Goals as goal

pub returns-then-ended-clause-gives : goal.returns-then-ended-clause-gives
returns-then-ended-clause-gives c = λ k s h. gives-left k _ c.plainly.result s c.args.t c.args.n c.args.ended c.if-ended.true c.plainly.ensures (c.end_scan.ensures.represents k s h)

pub returns-else-ended-clause-gives : goal.returns-else-ended-clause-gives
returns-else-ended-clause-gives c = λ k s h. gives-stayed k (view_of c.args.self.now) c.plainly-else-ended.result s c.args.t c.args.n c.args.ended c.if-ended.false c.plainly-else-ended.ensures h
