-- After the tick that was made.
use Rattle.std.proofs.Common.{refl}
use Rattle.std.proofs.lemmas.Result.{IfOk-weaker}
use Rattle.spec_machine.specs.declared.event.Event.TheVariants.{Tick}
use Rattle.lgx_walker.proofs.Seeing.{event_watched}
use Rattle.lgx_walker.proofs.valued.ValuedController.tick.Goals as goal

pub returns-clause-line : goal.returns-clause-line
returns-clause-line c =
    IfOk-weaker c.line.result _ _
    (λ o line p journal w. line p journal Tick (event_watched p journal Tick c.args.self.now _ refl (c.tick.ensures.runs p journal w.stands_for).stands w) (λ q. refl))
    c.line.ensures.line
