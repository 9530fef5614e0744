-- What a gate is asked for.
use Rattle.std.specs.Prelude.{ℕ, ◌+◌, ◌<◌, ◌≤◌, List, length}
use Rattle.spec_board.specs.declared.snapshot.Snapshot.{Snapshot}
use Rattle.lgx_stations.specs.declared.gated.TheConstants.{READS}

-- for each read, while a journal is replayed, of each of `stations` stations
abbrev pub ForReads : (ℕ → ℕ → Type 0) → ℕ → Type 0
ForReads Asked stations = (station read : ℕ) → station < stations → read < READS → Asked station read

-- For each publish between one number of published snapshots and another: publish k, counted from 0, adds to k + 1 of them.
abbrev pub ForPublishes : (ℕ → Type 0) → ℕ → ℕ → Type 0
ForPublishes Asked before after = (k : ℕ) → before ≤ k + 1 → k + 1 < after → Asked k

-- For each read of `stations` stations, and, under their number, for each publish after the opening one that makes this story.
abbrev pub ForAll : (ℕ → ℕ → Type 0) → ℕ → List Snapshot → Type 0
ForAll Asked stations story = ForReads Asked stations × ForPublishes (Asked stations) 1 (length story)
