use Rattle.std.proofs.Common.{◌≡◌, ◌++◌, map, drop}
use Rattle.std.specs.List.{filter_map}
use Rattle.lgx_chart.specs.Places.{shown, untold}
use Rattle.lgx_chart.proofs.places.push_untold.Given as goal

abbrev pub invariant-loop-name : goal.invariant-loop-name
invariant-loop-name l =
    l.places.items ++ map (shown l.asked.view l.entries) (filter_map (untold l.asked.places) (drop l.name-index l.names)) ≡ l.initial.places.items ++ map (shown l.asked.view l.entries) (filter_map (untold l.asked.places) l.names)
