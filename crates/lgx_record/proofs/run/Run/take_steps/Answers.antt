use Rattle.std.proofs.Common.{◌≡◌, ℕ, replicate, subst, arith}
use Rattle.spec_machine.specs.declared.event.Event.TheVariants.{Cpu}
use Rattle.lgx_record.specs.Extends.{Extends}
use Rattle.lgx_record.proofs.run.Run.take_steps.Goals as goal

pub returns-then-count-eq1 : goal.returns-then-count-eq1
returns-then-count-eq1 c =
    let one : 1 ≡ c.args.count = omega arith in
    subst (λ (n : ℕ). Extends c.args.self.now c.step.new.self c.args.log.now c.step.new.log (replicate n Cpu)) one c.step.ensures
