use Rattle.std.proofs.Common.{◌++◌, List, take}
use Rattle.spec_machine.specs.declared.event.Event.{Event}
use Rattle.spec_machine.specs.Project.{Project}
use Rattle.spec_link.specs.Links.{words_from}
use Rattle.lgx_record.specs.Records.{Records, IsRecording}
use Rattle.lgx_link.proofs.events.words_in.Given as goal

abbrev pub invariant-loop-word : goal.invariant-loop-word
invariant-loop-word l = record {
  some : IsRecording l.initial.recording;
  records : (project : Project) (events : List Event) → Records l.initial.recording project events → Records l.recording project (events ++ words_from l.input 0 (take l.word l.words));
}
