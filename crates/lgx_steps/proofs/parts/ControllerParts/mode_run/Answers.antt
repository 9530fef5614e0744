use Rattle.lgx_steps.specs.PartsView.{view_of}
use Rattle.spec_machine.specs.declared.reply.Mode.TheVariants as mode
use Rattle.lgx_steps.proofs.Running.{runs-from}
use Rattle.lgx_steps.proofs.parts.ControllerParts.mode_run.Goals as goal

pub returns-in-Program-clause-gives : goal.returns-in-Program-clause-gives
returns-in-Program-clause-gives c = λ n s h.
    runs-from n (view_of c.run.new.self) s c.run.result c.args.self.now.mode mode.Program h.mode c.in-Program.is c.held.result (c.held.ensures s.table h.table) c.if-held.false (c.run.ensures.gives n s h)
