use Rattle.std.proofs.Common.{◌≡◌, map, take}
use Rattle.lgx_record.proofs.names.watch_places.Given as goal

abbrev pub invariant-loop-watch : goal.invariant-loop-watch
invariant-loop-watch l = l.places.items ≡ map (λ x. x.place) (take l.watch-index l.watches)
