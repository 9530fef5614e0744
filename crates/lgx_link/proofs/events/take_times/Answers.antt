use Rattle.std.proofs.Common.{◌++◌, replicate, sym, subst, arith}
use Rattle.std.proofs.lemmas.List.{length-replicate}
use Rattle.std.proofs.lemmas.Result.{on_ok_weaker}
use Rattle.spec_machine.specs.declared.event.Event.{Event}
use Rattle.spec_machine.specs.declared.event.Event.TheVariants.{Cpu, Tick, Act}
use Rattle.lgx_record.specs.Records.{Records, RecordsMore, HasCounted}
use Rattle.lgx_link.proofs.events.take_times.Goals as goal

pub returns-in-Cpu-clause-records : goal.returns-in-Cpu-clause-records
returns-in-Cpu-clause-records c = λ project events h.
    on_ok_weaker c.apply.result
    (λ (more : RecordsMore c.args.recording.now c.apply.new.self (replicate c.args.count Cpu)). subst (λ (e : Event). Records c.apply.new.self project (events ++ replicate c.args.count e)) (sym c.in-Cpu.is) (more project events h))
    c.apply.ensures.records

pub returns-in-Cpu-clause-spent : goal.returns-in-Cpu-clause-spent
returns-in-Cpu-clause-spent c =
    on_ok_weaker c.apply.result
    (λ (more : HasCounted c.args.recording.now c.apply.new.self (replicate c.args.count Cpu)). let spent = more.spent in let many = length-replicate c.args.count Cpu in omega arith)
    c.apply.ensures.counts

pub returns-in-Tick-clause-records : goal.returns-in-Tick-clause-records
returns-in-Tick-clause-records c = λ project events h.
    on_ok_weaker c.apply-in-Tick.result
    (λ (more : RecordsMore c.args.recording.now c.apply-in-Tick.new.self (replicate c.args.count Tick)). subst (λ (e : Event). Records c.apply-in-Tick.new.self project (events ++ replicate c.args.count e)) (sym c.in-Tick.is) (more project events h))
    c.apply-in-Tick.ensures.records

pub returns-in-Tick-clause-spent : goal.returns-in-Tick-clause-spent
returns-in-Tick-clause-spent c =
    on_ok_weaker c.apply-in-Tick.result
    (λ (more : HasCounted c.args.recording.now c.apply-in-Tick.new.self (replicate c.args.count Tick)). let spent = more.spent in let many = length-replicate c.args.count Tick in omega arith)
    c.apply-in-Tick.ensures.counts

pub returns-in-Act-clause-records : goal.returns-in-Act-clause-records
returns-in-Act-clause-records c = λ project events h.
    on_ok_weaker c.act_times.result
    (λ (more : RecordsMore c.args.recording.now c.act_times.new.recording (replicate c.args.count (Act c.in-Act.lane c.in-Act.action))). subst (λ (e : Event). Records c.act_times.new.recording project (events ++ replicate c.args.count e)) (sym c.in-Act.is) (more project events h))
    c.act_times.ensures.records
