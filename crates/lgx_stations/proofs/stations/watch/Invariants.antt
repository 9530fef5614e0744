use Rattle.std.proofs.Common.{◌≡◌, ℕ, ◌<◌, None, ◌⊎◌}
use Rattle.lgx_stations.specs.Telling.{IsFirstOf}
use Rattle.lgx_stations.proofs.stations.watch.Given as goal

-- it has read so often, the gate was asked for each of these reads, and what the first one gave is kept
abbrev pub invariant-loop-index : goal.invariant-loop-index
invariant-loop-index g l =
    (l.watcher.lane ≡ l.fn.watcher.lane) × (l.watcher.station.reads ≡ l.index)
    × ((n : ℕ) → n < l.index → g.G.Gate.asked l.gate l.fn.watcher.lane n)
    × (((l.index ≡ 0) × (l.watcher.first ≡ None)) ⊎ IsFirstOf g.S.Story.story l.watcher.first)
