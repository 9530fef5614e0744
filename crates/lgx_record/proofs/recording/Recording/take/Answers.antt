use Rattle.std.proofs.Common.{sym, subst}
use Rattle.std.specs.Prelude.{OnOk}
use Rattle.lgx_journal.specs.declared.runs.EventsLent.{EventsLent}
use Rattle.lgx_record.specs.Records.{RecordsMore, HasCounted}
use Rattle.lgx_record.specs.Extends.{events_in}
use Rattle.lgx_record.proofs.recording.Recording.take.Goals as goal

pub returns-in-Cpu-clause-records : goal.returns-in-Cpu-clause-records
returns-in-Cpu-clause-records c = subst (λ (v : EventsLent). RecordsMore c.args.self.now c.take_steps.new.self (events_in v)) (sym c.in-Cpu.is) c.take_steps.ensures.records

pub returns-in-Cpu-clause-counts : goal.returns-in-Cpu-clause-counts
returns-in-Cpu-clause-counts c = subst (λ (v : EventsLent). HasCounted c.args.self.now c.take_steps.new.self (events_in v)) (sym c.in-Cpu.is) c.take_steps.ensures.counts

pub returns-in-Tick-clause-records : goal.returns-in-Tick-clause-records
returns-in-Tick-clause-records c = subst (λ (v : EventsLent). RecordsMore c.args.self.now c.take_ticks.new.self (events_in v)) (sym c.in-Tick.is) c.take_ticks.ensures.records

pub returns-in-Tick-clause-counts : goal.returns-in-Tick-clause-counts
returns-in-Tick-clause-counts c = subst (λ (v : EventsLent). HasCounted c.args.self.now c.take_ticks.new.self (events_in v)) (sym c.in-Tick.is) c.take_ticks.ensures.counts

pub returns-in-Act-clause-records : goal.returns-in-Act-clause-records
returns-in-Act-clause-records c = subst (λ (v : EventsLent). OnOk c.act.result (RecordsMore c.args.self.now c.act.new.self (events_in v))) (sym c.in-Act.is) c.act.ensures.records

pub returns-in-Act-clause-counts : goal.returns-in-Act-clause-counts
returns-in-Act-clause-counts c = subst (λ (v : EventsLent). OnOk c.act.result (HasCounted c.args.self.now c.act.new.self (events_in v))) (sym c.in-Act.is) c.act.ensures.counts
