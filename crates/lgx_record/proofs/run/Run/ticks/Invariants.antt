use Rattle.std.proofs.Common.{◌≡◌, ◌+◌, replicate}
use Rattle.spec_machine.specs.declared.event.Event.TheVariants.{Tick}
use Rattle.lgx_record.specs.Extends.{Extends}
use Rattle.lgx_record.proofs.run.Run.ticks.Given as goal

abbrev pub invariant-loop : goal.invariant-loop
invariant-loop l = record {
  spent : l.self.controller.spent ≡ l.initial.self.controller.spent + l.counter;
  takes : Extends l.initial.self l.self l.initial.log l.log (replicate l.counter Tick);
}
