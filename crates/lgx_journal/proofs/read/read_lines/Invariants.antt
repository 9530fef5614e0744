use Rattle.std.proofs.Common.{◌≡◌, ◌+◌, ◌≤◌, length}
use Rattle.spec_text.specs.JournalText.{journal_of}
use Rattle.lgx_journal.specs.Reading.{read_after, tally_events}
use Rattle.lgx_journal.proofs.read.read_lines.Given as goal

abbrev pub invariant-lines : goal.invariant-lines
invariant-lines l = record {
  same : read_after l.journal.events (l.number + 1) l.tally l.rest ≡ journal_of l.bytes;
  size : length l.journal.events ≡ tally_events l.tally;
  number : l.number + length l.rest ≤ length l.bytes;
}

abbrev pub decreases-lines : goal.decreases-lines
decreases-lines l = length l.rest
