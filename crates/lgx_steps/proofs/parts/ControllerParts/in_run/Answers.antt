use Rattle.lgx_steps.specs.PartsView.{view_of}
use Rattle.lgx_steps.proofs.Ticking.{gives-quiet}
use Rattle.lgx_steps.proofs.parts.ControllerParts.in_run.Goals as goal

pub returns-then-is_quiet-clause-gives : goal.returns-then-is_quiet-clause-gives
returns-then-is_quiet-clause-gives c = λ n s h.
    gives-quiet n (view_of c.args.self.now) s c.args.self.now.tick c.quiet.result h h.tick (λ T r. c.is_quiet.ensures T r c.if-is_quiet.true) c.quiet.ensures
