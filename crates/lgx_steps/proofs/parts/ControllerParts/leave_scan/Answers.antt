use Rattle.lgx_steps.specs.PartsView.{view_of}
use Rattle.lgx_steps.proofs.Leaving.{left-scan, left-without}
use Rattle.lgx_steps.proofs.parts.ControllerParts.leave_scan.Goals as goal

pub returns-in-Some-clause-represents : goal.returns-in-Some-clause-represents
returns-in-Some-clause-represents c = λ n s h.
    left-scan n (view_of c.args.self.now) s h c.args.t c.args.ended c.requires.known c.requires.left c.index_mut-progress.result.now _ c.index_mut-progress.ensures.value c.in-Some.scan c.drop_hold.new.self c.in-Some.is c.drop_hold.ensures.books c.drop_hold.ensures.held

pub returns-in_default-clause-represents : goal.returns-in_default-clause-represents
returns-in_default-clause-represents c = λ n s h.
    left-without n (view_of c.args.self.now) s h c.args.t c.args.ended c.requires.known c.requires.left c.index_mut-progress.result.now _ c.index_mut-progress.ensures.value c.in_default.is
