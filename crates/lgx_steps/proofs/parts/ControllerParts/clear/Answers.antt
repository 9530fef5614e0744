use Rattle.lgx_steps.specs.PartsView.{view_of}
use Rattle.spec_machine.specs.declared.reply.Mode.TheVariants as mode
use Rattle.lgx_steps.proofs.States.{with-mode}
use Rattle.lgx_steps.proofs.Running.{clears-from}
use Rattle.lgx_steps.proofs.parts.ControllerParts.clear.Goals as goal

pub returns-in-Faulted-clause-gives : goal.returns-in-Faulted-clause-gives
returns-in-Faulted-clause-gives c = λ n s h.
    clears-from n _ s c.replied-in-Faulted.result c.args.self.now.mode mode.Faulted h.mode c.in-Faulted.is c.held.result (c.held.ensures s.table h.table) c.if-held.false
    (record { answers = c.replied-in-Faulted.ensures; represents = with-mode n (view_of c.args.self.now) s h mode.Program })
