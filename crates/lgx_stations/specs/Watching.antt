-- A station's thread: how it begins, and what it leaves.
use Rattle.std.specs.Prelude.{◌≡◌, ℕ, ◌+◌, List, Option, None}
use Rattle.spec_board.specs.declared.snapshot.Snapshot.{Snapshot}
use Rattle.lgx_hmi.specs.StationViews.{StationView}
use Rattle.lgx_stations.specs.declared.gated.TheConstants.{READS}
use Rattle.lgx_stations.specs.Telling.{IsFirstOf}

-- the watcher at this place among `count`, which are numbered from the last one on, before it reads
abbrev pub IsUnread : ℕ → ℕ → ℕ → StationView → Option Snapshot → Type 0
IsUnread count place lane station first = (lane + place + 1 ≡ count) × (station.reads ≡ 0) × (first ≡ None)

-- a watcher that has read as often as it is to, and kept a snapshot of the story
abbrev pub HasRead : List Snapshot → StationView → Option Snapshot → Type 0
HasRead story station first = (station.reads ≡ READS) × IsFirstOf story first
