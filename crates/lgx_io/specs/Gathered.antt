-- A sink over a writer, as contracts see it.
use Rattle.std.specs.Prelude.{ℕ, List, Option}
use Rattle.std.specs.Io.KnownBytes.{append_known}

-- `Gathered`: what its writer holds, if that is known; the bytes that wait to be written; the count of faults
pub record GatheredState : Type 0 where
  pub written : Option (List ℕ)
  pub waiting : List ℕ
  pub faults : ℕ

-- what is written, and then what waits
abbrev pub held_by : GatheredState → Option (List ℕ)
held_by g = append_known g.written g.waiting
