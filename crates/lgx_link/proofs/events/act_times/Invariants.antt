use Rattle.std.proofs.Common.{◌≡◌, ◌+◌, replicate}
use Rattle.spec_machine.specs.declared.event.Event.TheVariants.{Act}
use Rattle.lgx_record.specs.Records.{RecordsMore}
use Rattle.lgx_link.proofs.events.act_times.Given as goal

abbrev pub invariant-loop : goal.invariant-loop
invariant-loop l = record {
  spent : l.recording.controller.spent ≡ l.initial.recording.controller.spent + l.counter;
  records : RecordsMore l.initial.recording l.recording (replicate l.counter (Act l.lane l.action));
}
