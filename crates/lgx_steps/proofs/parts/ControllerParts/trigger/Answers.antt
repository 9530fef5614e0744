use Rattle.lgx_steps.proofs.AfterEffects.{gives-triggered}
use Rattle.lgx_steps.proofs.parts.ControllerParts.trigger.Goals as goal

pub returns-clause-gives : goal.returns-clause-gives
returns-clause-gives c = λ k t n s h e. gives-triggered k _ _ c.release-released.result s t n c.args.other e (c.release-released.ensures.gives k s h)
