use Rattle.std.proofs.Common.{sym, subst}
use Rattle.std.specs.Prelude.{OnOk}
use Rattle.lgx_journal.specs.declared.runs.EventsLent.{EventsLent}
use Rattle.lgx_record.specs.Extends.{Extends, events_in}
use Rattle.lgx_record.proofs.run.Run.take.Goals as goal

pub returns-in-Cpu-clause-all : goal.returns-in-Cpu-clause-all
returns-in-Cpu-clause-all c = subst (λ (v : EventsLent). Extends c.args.self.now c.take_steps.new.self c.args.log.now c.take_steps.new.log (events_in v)) (sym c.in-Cpu.is) c.take_steps.ensures

pub returns-in-Tick-clause-all : goal.returns-in-Tick-clause-all
returns-in-Tick-clause-all c = subst (λ (v : EventsLent). Extends c.args.self.now c.take_ticks.new.self c.args.log.now c.take_ticks.new.log (events_in v)) (sym c.in-Tick.is) c.take_ticks.ensures

pub returns-in-Act-clause-all : goal.returns-in-Act-clause-all
returns-in-Act-clause-all c = subst (λ (v : EventsLent). OnOk c.act.result (Extends c.args.self.now c.act.new.self c.args.log.now c.act.new.log (events_in v))) (sym c.in-Act.is) c.act.ensures.takes
