use Rattle.std.proofs.Common.{sym}
use Rattle.spec_machine.specs.Machine.{OfStep, OfTick, OfAction}
use Rattle.cmd_trace.proofs.seen.make.Goals as goal

pub returns-in-Cpu-clause-made : goal.returns-in-Cpu-clause-made
returns-in-Cpu-clause-made c = record { entry = OfStep c.cpu-moment.result; goes_on = c.cpu-moment.ensures.runs; is_event = sym c.in-Cpu.is; is_seen = c.step_seen.ensures }

pub returns-in-Tick-clause-made : goal.returns-in-Tick-clause-made
returns-in-Tick-clause-made c = record { entry = OfTick c.tick-report.result; goes_on = c.tick-report.ensures.runs; is_event = sym c.in-Tick.is; is_seen = c.tick_seen.ensures }

pub returns-in-Ok-clause-made : goal.returns-in-Ok-clause-made
returns-in-Ok-clause-made c = record {
  entry = OfAction c.in-Act.lane c.in-Act.action c.in-Ok.outcome;
  goes_on = c.in-Ok.ensures.runs;
  is_event = sym c.in-Act.is;
  is_seen = c.action_seen.ensures;
}
