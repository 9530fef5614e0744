use Rattle.std.proofs.Common.{length, drop}
use Rattle.spec_text.specs.JournalText.{joined, events_of}
use Rattle.lgx_stations.specs.Asking.{ForPublishes}
use Rattle.lgx_stations.specs.Telling.{IsAt}
use Rattle.lgx_stations.proofs.telling.tell_journal.Given as goal

-- what is left are the runs from this one on; and the gate was asked for each publish so far
abbrev pub invariant-loop-i : goal.invariant-loop-i
invariant-loop-i g l =
    IsAt g.I.JournalInput.project g.I.JournalInput.journal l.reported l.board (events_of (drop l.i (joined l.journal.events)))
    × ForPublishes (λ k. g.G.Gate.asked l.gate l.lane k) (length l.fn.board) (length l.board)
