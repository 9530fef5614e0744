use Rattle.std.proofs.Common.{◌≡◌, ℕ, replicate, subst, arith}
use Rattle.spec_machine.specs.declared.event.Event.TheVariants.{Tick}
use Rattle.lgx_record.specs.Extends.{Extends}
use Rattle.lgx_record.proofs.run.Run.take_ticks.Goals as goal

pub returns-then-count-eq1 : goal.returns-then-count-eq1
returns-then-count-eq1 c =
    let one : 1 ≡ c.args.count = omega arith in
    subst (λ (n : ℕ). Extends c.args.self.now c.tick.new.self c.args.log.now c.tick.new.log (replicate n Tick)) one c.tick.ensures.takes
