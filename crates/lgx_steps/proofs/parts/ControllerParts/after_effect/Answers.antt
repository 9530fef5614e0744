use Rattle.std.proofs.Common.{refl}
use Rattle.lgx_steps.specs.PartsView.{view_of}
use Rattle.lgx_steps.proofs.AfterEffects.{by-effect}
use Rattle.lgx_steps.proofs.States.{later}
use Rattle.lgx_steps.proofs.parts.ControllerParts.after_effect.Goals as goal

pub returns-in-Ran-clause-gives : goal.returns-in-Ran-clause-gives
returns-in-Ran-clause-gives c = λ k s h. by-effect k _ _ s c.args.t c.args.n c.args.effect _ c.in-Ran.is (record { answers = c.plainly.ensures; represents = later k (view_of c.args.self.now) s h })

pub returns-in-Up-clause-gives : goal.returns-in-Up-clause-gives
returns-in-Up-clause-gives c = λ k s h. by-effect k _ _ s c.args.t c.args.n c.args.effect _ c.in-Up.is (c.up.ensures.gives k c.args.n s h refl)

pub returns-in-Down-clause-gives : goal.returns-in-Down-clause-gives
returns-in-Down-clause-gives c = λ k s h. by-effect k _ _ s c.args.t c.args.n c.args.effect _ c.in-Down.is (c.down.ensures.gives k c.args.n s h refl)

pub returns-in-CopyStart-clause-gives : goal.returns-in-CopyStart-clause-gives
returns-in-CopyStart-clause-gives c = λ k s h. by-effect k _ _ s c.args.t c.args.n c.args.effect _ c.in-CopyStart.is (c.copy_start.ensures.gives k c.args.n s h refl)

pub returns-in-Copied-clause-gives : goal.returns-in-Copied-clause-gives
returns-in-Copied-clause-gives c = λ k s h. by-effect k _ _ s c.args.t c.args.n c.args.effect _ c.in-Copied.is (c.copied.ensures.gives k s h)

pub returns-in-Left-clause-gives : goal.returns-in-Left-clause-gives
returns-in-Left-clause-gives c = λ k s h. by-effect k _ _ s c.args.t c.args.n c.args.effect _ c.in-Left.is (c.left.ensures.gives k s h)
