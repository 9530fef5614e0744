use Rattle.std.proofs.Common.{◌≡◌, ◌+◌, ◌-◌, ◌≤◌, replicate}
use Rattle.spec_machine.specs.declared.event.Event.TheVariants.{Cpu}
use Rattle.lgx_record.specs.Extends.{Extends}
use Rattle.lgx_record.proofs.run.Run.stretches.Given as goal

abbrev pub invariant-loop-left : goal.invariant-loop-left
invariant-loop-left l = record {
  within : l.left ≤ l.count;
  spent : l.self.controller.spent + l.left ≡ l.initial.self.controller.spent + l.count;
  takes : Extends l.initial.self l.self l.initial.log l.log (replicate (l.count - l.left) Cpu);
}

abbrev pub decreases-loop-left : goal.decreases-loop-left
decreases-loop-left l = l.left
