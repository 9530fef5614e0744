-- The places of the watches before.
use Rattle.std.proofs.Common.{◌≡◌, map, take}
use Rattle.lgx_walker.proofs.places.watch_places.Given as goal

abbrev pub invariant-loop-watch : goal.invariant-loop-watch
invariant-loop-watch l = l.places.items ≡ map (λ w. w.place) (take l.watch-index l.watches)
