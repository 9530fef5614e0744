use Rattle.std.proofs.Common.{◌≡◌, ℕ, ◌+◌, ◌-◌, replicate, subst, arith}
use Rattle.std.proofs.lemmas.List.{length-replicate}
use Rattle.spec_machine.specs.declared.event.Event.TheVariants.{Cpu}
use Rattle.lgx_record.specs.Extends.{Extends}
use Rattle.lgx_record.proofs.Extending.{by-none, by-more, few-lost}
use Rattle.lgx_record.proofs.run.Run.stretches.Goals as goal

pub loop-left-init : goal.loop-left-init
loop-left-init c =
    let none : 0 ≡ c.args.count - c.args.count = omega arith in
    record {
      within = omega arith;
      spent = omega arith;
      takes = subst (λ (n : ℕ). Extends c.args.self.now c.args.self.now c.args.log.now c.args.log.now (replicate n Cpu)) none (by-none c.args.self.now c.args.log.now);
    }

pub stretch-left-requires-clause-room : goal.stretch-left-requires-clause-room
stretch-left-requires-clause-room c =
    let spent = c.loop-left.invariant.spent in
    let room = c.requires.room in
    omega arith

pub stretch-left-requires-clause-lost : goal.stretch-left-requires-clause-lost
stretch-left-requires-clause-lost c =
    let done = c.args.count - c.loop-left.left in
    let many = length-replicate done Cpu in
    let few = few-lost c.args.self.now c.loop-left.self c.args.log.now c.loop-left.log (replicate done Cpu) c.law_of_runs.ensures c.loop-left.invariant.takes in
    let within = c.loop-left.invariant.within in
    let lost = c.requires.lost in
    omega arith

pub loop-left-preserved : goal.loop-left-preserved
loop-left-preserved c =
    let made = c.stretch-left.result in
    let most = c.stretch-left.ensures.most in
    let more = c.stretch-left.ensures.spent in
    let spent = c.loop-left.invariant.spent in
    let within = c.loop-left.invariant.within in
    let done = c.args.count - c.loop-left.left in
    let next : done + made ≡ c.args.count - (c.loop-left.left - made) = omega arith in
    record {
      within = omega arith;
      spent = omega arith;
      takes =
          subst (λ (n : ℕ). Extends c.args.self.now c.stretch-left.new.self c.args.log.now c.stretch-left.new.log (replicate n Cpu)) next
          (by-more c.args.self.now c.loop-left.self c.stretch-left.new.self c.args.log.now c.loop-left.log c.stretch-left.new.log Cpu done made c.loop-left.invariant.takes c.stretch-left.ensures.takes);
    }

pub returns : goal.returns
returns c =
    let all : c.args.count - c.loop-left.left ≡ c.args.count = omega arith in
    subst (λ (n : ℕ). Extends c.args.self.now c.loop-left.self c.args.log.now c.loop-left.log (replicate n Cpu)) all c.loop-left.invariant.takes
