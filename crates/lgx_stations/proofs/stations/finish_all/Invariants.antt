use Rattle.std.proofs.Common.{◌≡◌, ◌+◌, ◌≤◌, All, vec_len, vec_capacity}
use Rattle.lgx_stations.specs.Telling.{AreReadingsOf}
use Rattle.lgx_stations.specs.Watching.{HasRead}
use Rattle.lgx_stations.proofs.stations.finish_all.Given as goal

-- each station is among those that are left, or its readings are in the list
abbrev pub invariant-loop-watcher : goal.invariant-loop-watcher
invariant-loop-watcher g l =
    (vec_len l.watchers + vec_len l.readings ≡ vec_len l.fn.watchers) × (vec_len l.fn.watchers ≤ vec_capacity l.readings)
    × All (λ w. HasRead g.S.Story.story w.station w.first) l.watchers.items × All (λ r. AreReadingsOf g.S.Story.story r) l.readings.items

abbrev pub decreases-loop-watcher : goal.decreases-loop-watcher
decreases-loop-watcher g l = vec_len l.watchers
