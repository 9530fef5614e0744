use Rattle.std.proofs.Common.{◌+◌, arith}
use Rattle.lgx_steps.specs.PartsView.{view_of}
use Rattle.spec_machine.specs.declared.reply.Mode.TheVariants as mode
use Rattle.lgx_steps.proofs.States.{next-tick}
use Rattle.lgx_steps.proofs.Ticking.{gives-in_mode}
use Rattle.lgx_steps.proofs.parts.ControllerParts.tick.Goals as goal

pub in_run-requires : goal.in_run-requires
in_run-requires c = record {
  events = c.requires.events + 1;
  state = record c.requires.state { tick = c.requires.state.tick + 1 };
  room = omega (arith, c.requires.room);
  represents = next-tick c.requires.events (view_of c.args.self.now) c.requires.state c.requires.represents;
}

pub returns-in-Run-clause-gives : goal.returns-in-Run-clause-gives
returns-in-Run-clause-gives c = λ n s h.
    gives-in_mode (n + 1) (view_of c.in_run.new.self) (record s { tick = s.tick + 1 }) c.args.self.now.mode mode.Run c.in_run.result h.mode c.in-Run.is (c.in_run.ensures.gives (n + 1) (record s { tick = s.tick + 1 }) (next-tick n (view_of c.args.self.now) s h))
