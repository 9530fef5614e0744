use Rattle.std.proofs.Common.{◌-◌, List, ◌++◌, length, replicate}
use Rattle.spec_machine.specs.declared.event.Event.{Event as Events}
use Rattle.lgx_stations.specs.Asking.{ForPublishes}
use Rattle.lgx_stations.specs.Telling.{IsAt}
use Rattle.lgx_stations.proofs.telling.tell_run.Given as goal

-- what is left of the run, whatever comes after it; and the gate was asked for each publish so far
abbrev pub invariant-loop : goal.invariant-loop
invariant-loop g l =
    ((left : List Events) → IsAt g.I.JournalInput.project g.I.JournalInput.journal l.initial.reported l.initial.board (replicate l.count l.event ++ left)
    → IsAt g.I.JournalInput.project g.I.JournalInput.journal l.reported l.board (replicate (l.count - l.counter) l.event ++ left))
    × ForPublishes (λ k. g.G.Gate.asked l.gate l.lane k) (length l.fn.board) (length l.board)
