use Rattle.std.proofs.Common.{◌≡◌, ℕ, ◌+◌, ◌≤◌, length}
use Rattle.lgx_journal.specs.Reading.{read_after, tally_events}
use Rattle.lgx_journal.proofs.read.read_singles.Given as goal

abbrev pub invariant-singles : goal.invariant-singles
invariant-singles l = record {
  same : (n : ℕ) → read_after l.journal.events (n + l.number) l.tally l.rest ≡ read_after l.initial.journal.events n l.initial.tally l.text;
  size : length l.journal.events ≡ tally_events l.tally;
  number : l.number + length l.rest ≤ length l.text;
}

abbrev pub decreases-singles : goal.decreases-singles
decreases-singles l = length l.rest
