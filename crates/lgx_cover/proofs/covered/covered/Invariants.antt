use Rattle.std.proofs.Common.{take}
use Rattle.spec_text.specs.JournalText.{joined, events_of}
use Rattle.lgx_cover.specs.Covers.{Covers}
use Rattle.lgx_cover.proofs.covered.covered.Given as goal

abbrev pub invariant-loop-i : goal.invariant-loop-i
invariant-loop-i l = record {
  covers : Covers l.coverage l.fn.project (events_of (take l.i (joined l.journal.events)));
}
