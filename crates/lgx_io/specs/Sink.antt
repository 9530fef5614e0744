-- What a put does to what a sink holds, and to its count of faults.
use Rattle.std.specs.Prelude.{ℕ, ◌+◌, ◌-◌, ◌^◌, ◌≤◌, min, List, take, Option}
use Rattle.std.specs.Io.KnownBytes.{Appends}

-- one more, unless the count is at the last number that it can have
abbrev pub next_count : ℕ → ℕ
next_count count = min (count + 1) (2 ^ 64 - 1)

-- the count is greater than before, or is at its last value
abbrev pub FaultsRose : ℕ → ℕ → Type 0
FaultsRose before now = min (before + 1) (2 ^ 64 - 1) ≤ now

-- if it is known what is held, that grew by a first part of the bytes
abbrev pub AppendsPart : Option (List ℕ) → Option (List ℕ) → List ℕ → Type 0
AppendsPart old new bytes = (n : ℕ) × Appends old new (take n bytes)
