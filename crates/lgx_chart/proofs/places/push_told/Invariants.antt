use Rattle.std.proofs.Common.{◌≡◌, ◌++◌, map, take}
use Rattle.lgx_chart.specs.Places.{shown}
use Rattle.lgx_chart.proofs.places.push_told.Given as goal

abbrev pub invariant-loop-place : goal.invariant-loop-place
invariant-loop-place l =
    l.places.items ≡ l.initial.places.items ++ map (shown l.asked.view l.entries) (take l.place-index l.asked.places)
