use Rattle.std.proofs.Common.{◌≡◌, ℕ, ◌+◌, ◌≤◌, ◌<◌, All, vec_len, vec_capacity}
use Rattle.std.specs.Prelude.{slice_index_or}
use Rattle.lgx_stations.specs.Watching.{IsUnread}
use Rattle.lgx_stations.proofs.stations.number_all.Given as goal

-- each station is in one of the two lists, and has not read
abbrev pub invariant-loop-station : goal.invariant-loop-station
invariant-loop-station g l =
    (vec_len l.stations + vec_len l.watchers ≡ vec_len l.fn.stations) × (vec_len l.fn.stations ≤ vec_capacity l.watchers)
    × All (λ s. s.reads ≡ 0) l.stations.items
    × ((i : ℕ) (d : _) → i < vec_len l.watchers → let w = slice_index_or l.watchers.items i d in IsUnread (vec_len l.fn.stations) i w.lane w.station w.first)

abbrev pub decreases-loop-station : goal.decreases-loop-station
decreases-loop-station g l = vec_len l.stations
