use Rattle.lgx_steps.specs.PartsView.{view_of}
use Rattle.spec_machine.specs.declared.reply.Mode.TheVariants as mode
use Rattle.lgx_steps.proofs.Running.{stops-from}
use Rattle.lgx_steps.proofs.parts.ControllerParts.mode_program.Goals as goal

pub returns-in-Run-clause-gives : goal.returns-in-Run-clause-gives
returns-in-Run-clause-gives c = λ n s h.
    stops-from n (view_of c.stop.new.self) s c.stop.result c.args.self.now.mode mode.Run h.mode c.in-Run.is c.held.result (c.held.ensures s.table h.table) c.if-held.false (c.stop.ensures.gives n s h)
