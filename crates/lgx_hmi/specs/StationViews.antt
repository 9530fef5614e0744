-- A station as contracts see it.
use Rattle.std.specs.Prelude.{ℕ, List, [], ◌∷◌}
use Rattle.spec_board.specs.declared.snapshot.Snapshot.{Snapshot}

-- the snapshots that it has seen, oldest first, and how often it has read
pub record StationView : Type 0 where
  pub seen : List Snapshot
  pub reads : ℕ

-- that of a station which has seen the first snapshot, and has not read
abbrev pub opening_view : Snapshot → StationView
opening_view first = record { seen = first ∷ []; reads = 0 }
