use Rattle.std.proofs.Common.{◌≡◌, ℕ, replicate, subst, arith}
use Rattle.std.proofs.lemmas.List.{length-replicate}
use Rattle.spec_machine.specs.declared.event.Event.TheVariants.{Tick}
use Rattle.lgx_record.specs.Extends.{Extends}
use Rattle.lgx_record.proofs.Extending.{by-none, by-more, few-lost}
use Rattle.lgx_record.proofs.run.Run.ticks.Goals as goal

pub loop-init : goal.loop-init
loop-init c = record { spent = omega arith; takes = by-none c.args.self.now c.args.log.now }

pub tick-requires-clause-lost : goal.tick-requires-clause-lost
tick-requires-clause-lost c =
    let many = length-replicate c.loop.counter Tick in
    let few = few-lost c.args.self.now c.loop.self c.args.log.now c.loop.log (replicate c.loop.counter Tick) c.law_of_runs.ensures c.loop.invariant.takes in
    let lost = c.requires.lost in
    omega arith

pub loop-preserved : goal.loop-preserved
loop-preserved c =
    let more = c.tick.ensures.spent in
    let spent = c.loop.invariant.spent in
    record {
      spent = omega arith;
      takes = by-more c.args.self.now c.loop.self c.tick.new.self c.args.log.now c.loop.log c.tick.new.log Tick c.loop.counter 1 c.loop.invariant.takes c.tick.ensures.takes;
    }

pub returns : goal.returns
returns c =
    let all : c.loop.counter ≡ c.args.count = omega arith in
    subst (λ (n : ℕ). Extends c.args.self.now c.loop.self c.args.log.now c.loop.log (replicate n Tick)) all c.loop.invariant.takes
