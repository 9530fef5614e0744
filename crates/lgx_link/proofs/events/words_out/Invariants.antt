use Rattle.std.proofs.Common.{◌≡◌, ◌≤◌, ◌++◌, List, length}
use Rattle.spec_machine.specs.declared.event.Event.{Event}
use Rattle.spec_machine.specs.Project.{Project}
use Rattle.spec_link.specs.Links.{words_answered}
use Rattle.lgx_record.specs.Records.{Records, IsRecording}
use Rattle.lgx_link.specs.Running.{outs, AreWords}
use Rattle.lgx_link.proofs.events.words_out.Given as goal

abbrev pub invariant-loop-word : goal.invariant-loop-word
invariant-loop-word l = record {
  some : IsRecording l.initial.recording;
  records : (project : Project) (events : List Event) → Records l.initial.recording project events → Records l.recording project (events ++ outs l.output l.word);
  words : (project : Project) (events : List Event) → Records l.initial.recording project events → l.words ≡ words_answered project events (outs l.output l.word);
  few : length l.words ≤ l.word;
  range : AreWords l.words;
}
