use Rattle.std.proofs.Common.{◌≡◌, map, length}
use Rattle.std.specs.Prelude.{string_bytes}
use Rattle.lgx_chart.specs.Asked.{asked_by}
use Rattle.lgx_chart.proofs.asked.Reading.take_all.Given as goal

abbrev pub invariant-loop-word : goal.invariant-loop-word
invariant-loop-word l =
    asked_by l.self (map string_bytes l.rest) ≡ asked_by l.initial.self (map string_bytes l.words)

abbrev pub decreases-loop-word : goal.decreases-loop-word
decreases-loop-word l = length l.rest
