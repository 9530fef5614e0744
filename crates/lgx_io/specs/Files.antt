-- What a read of a whole file says of the file, and what it adds to the list of failures.
use Rattle.std.specs.Prelude.{◌≡◌, ℕ, ◌<◌, ◌≤◌, List, [], ◌∷◌, length, Option, Result, Ok, Err, Vec, IfSome}
use Rattle.std.specs.Io.KnownBytes.{Consumes}
use Rattle.std.specs.declared.alloc.Global.{Global}
use Rattle.lgx_io.specs.declared.files.FileFault.{FileFault}
use Rattle.lgx_io.specs.declared.files.FileFault.TheVariants.{Failed, TooLong, Memory}
use Rattle.lgx_io.specs.declared.files.ReadCause.{ReadCause}
use Rattle.lgx_io.specs.declared.files.ReadCause.TheVariants as cause
use Rattle.spec_base.specs.declared.limits.TheConstants.{MAX_FILE_BYTES}

-- what an answer adds to the list of failures: this name with `Failed` or `TooLong`, and else nothing
abbrev pub added : List ℕ → Result (Vec ℕ Global) FileFault → List (List ℕ × ReadCause)
added name (Ok bytes) = []
added name (Err Failed) = (name, cause.Failed) ∷ []
added name (Err (TooLong taken)) = (name, cause.TooLong) ∷ []
added name (Err Memory) = []

-- what a fault says of the file: more bytes came than a file may have, and if its contents are known, they have all those that came
abbrev pub IsCause : Option (List ℕ) → FileFault → Type 0
IsCause told Failed = Unit {0}
IsCause told (TooLong taken) = (MAX_FILE_BYTES < taken) × IfSome told (λ contents. taken ≤ length contents)
IsCause told Memory = Unit {0}

-- what a fault says of a reader: `taken` is the number of bytes that came from it
abbrev pub CameBefore : Option (List ℕ) → Option (List ℕ) → FileFault → Type 0
CameBefore old new Failed = Unit {0}
CameBefore old new (TooLong taken) = (bytes : List ℕ) × Consumes old new bytes × (length bytes ≡ taken)
CameBefore old new Memory = Unit {0}
