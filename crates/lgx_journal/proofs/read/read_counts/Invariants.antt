use Rattle.std.proofs.Common.{◌≡◌, ℕ, ◌+◌, ◌≤◌, length}
use Rattle.lgx_journal.specs.Reading.{read_after, tally_events}
use Rattle.lgx_journal.proofs.read.read_counts.Given as goal

abbrev pub invariant-counts : goal.invariant-counts
invariant-counts l = record {
  same : (n : ℕ) → read_after l.journal.events (n + l.number) l.tally l.rest ≡ read_after l.fn.journal.events n l.fn.tally l.text;
  size : length l.journal.events ≡ tally_events l.tally;
  number : l.number + length l.rest ≤ length l.text;
}

abbrev pub decreases-counts : goal.decreases-counts
decreases-counts l = length l.rest
