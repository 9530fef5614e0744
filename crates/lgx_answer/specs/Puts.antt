-- What puts do, one after another.
use Rattle.std.specs.Prelude.{◌≡◌, ℕ, List, ◌++◌, Option, Result, OnOk, OnErr, IsErrOf}
use Rattle.std.specs.Io.KnownBytes.{Appends}
use Rattle.lgx_io.specs.declared.sink.SinkFault.{SinkFault}
use Rattle.lgx_io.specs.declared.sink.SinkFault.TheVariants.{Failed}
use Rattle.lgx_io.specs.Sink.{FaultsRose, AppendsPart}
use Rattle.lgx_answer.specs.Answered.{Change}

-- The text was added, or a first part of it; the count of faults rose at `Failed` alone.
pub record Puts (held : Change (Option (List ℕ))) (faults : Change ℕ) (text : List ℕ) (result : Result (Unit {0}) SinkFault) : Type 0 where
  pub whole : OnOk result (Appends held.old held.new text)
  pub part : OnErr result (AppendsPart held.old held.new text)
  pub failed : IsErrOf result Failed → FaultsRose faults.old faults.new
  pub unfailed : (IsErrOf result Failed → ⊥) → faults.new ≡ faults.old

-- of the whole text a first part was added, and this is left of it
abbrev pub IsWritten : Option (List ℕ) → Option (List ℕ) → List ℕ → List ℕ → Type 0
IsWritten old new whole rest = (done : List ℕ) × (whole ≡ done ++ rest) × Appends old new done
