-- The end of a process.
use Rattle.std.specs.Prelude.{◌≡◌, ◌⊎◌, ℕ, []}
use Rattle.std.specs.Io.KnownBytes.{Keeps}
use Rattle.lgx_io.specs.Sink.{FaultsRose}
use Rattle.lgx_io.specs.Gathered.{GatheredState, held_by}
use Rattle.lgx_answer.specs.declared.status.Status.{Status}
use Rattle.lgx_answer.specs.declared.status.Status.TheVariants as status
use Rattle.lgx_answer.specs.Endings.{number}

-- All that was put is written, nothing waits, and the number is that of the status.
pub record ExitsWritten (answer : Status) (old new : GatheredState) (ends : ℕ) : Type 0 where
  pub exit : ends ≡ number answer
  pub written : new.waiting ≡ []
  pub faults : new.faults ≡ old.faults

-- It couldn't be written, which is one more fault, and the number is that of a write fault.
pub record ExitsUnwritten (old new : GatheredState) (ends : ℕ) : Type 0 where
  pub exit : ends ≡ number status.WriteFault
  pub faults : FaultsRose old.faults new.faults

-- the one or the other; what is held stays the same
abbrev pub Exits : Status → GatheredState → GatheredState → ℕ → Type 0
Exits answer old new exit =
    Keeps (held_by old) (held_by new) × (ExitsWritten answer old new exit ⊎ ExitsUnwritten old new exit)
