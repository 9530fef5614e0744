use Rattle.std.proofs.Common.{◌≡◌, drop, fold}
use Rattle.lgx_chart.specs.Places.{after_line, value_at_start}
use Rattle.lgx_chart.proofs.places.value_at_start.Given as goal

abbrev pub invariant-loop-entry : goal.invariant-loop-entry
invariant-loop-entry l =
    fold (after_line l.view l.name) l.value (drop l.entry-index l.entries) ≡ value_at_start l.view l.entries l.name l.fn.start
