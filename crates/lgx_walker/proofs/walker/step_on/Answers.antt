-- After the step and its tick.
use Rattle.std.proofs.Common.{◌++◌, ◌∷◌, []}
use Rattle.spec_machine.specs.declared.event.Event.TheVariants.{Cpu}
use Rattle.lgx_walker.proofs.Seeing.{ticked_watches, ticked_clear}
use Rattle.lgx_walker.proofs.walker.step_on.Goals as goal

pub returns-in-None-clause-watches : goal.returns-in-None-clause-watches
returns-in-None-clause-watches c = λ p journal w.
    ticked_watches p c.args.question.now journal c.args.has_tick c.if-not-has_tick.false c.tick.new.self (c.in_ok-line-2.ensures.watches p (journal ++ Cpu ∷ []) (c.in_ok-line.ensures.watches p journal w))

pub returns-in-None-clause-clear : goal.returns-in-None-clause-clear
returns-in-None-clause-clear c = λ p journal w.
    ticked_clear p c.args.question.now journal c.args.has_tick c.if-not-has_tick.false c.in_ok-line.field-0 c.in_ok-line-2.field-0 c.in_default.is c.in-None.is
    (c.in_ok-line.ensures.line p journal w) (c.in_ok-line-2.ensures.line p (journal ++ Cpu ∷ []) (c.in_ok-line.ensures.watches p journal w))
