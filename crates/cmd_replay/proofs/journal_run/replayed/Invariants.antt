use Rattle.std.proofs.Common.{[], take}
use Rattle.spec_text.specs.JournalText.{joined, events_of}
use Rattle.lgx_watch.specs.Kept.{no_lines}
use Rattle.lgx_record.specs.Extends.{IsExtended}
use Rattle.cmd_replay.proofs.journal_run.replayed.Given as goal

abbrev pub invariant-loop-i : goal.invariant-loop-i
invariant-loop-i l = record {
  more : IsExtended l.run no_lines l.log l.fn.project [] (events_of (take l.i (joined l.journal.events)));
}
