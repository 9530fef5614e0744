-- Files that are opened by name: what contracts see of them, and which names a read opens.
use Rattle.std.specs.Prelude.{◌≡◌, ◌⊎◌, ℕ, Bool, List, [], ◌∷◌, ◌++◌, Option, Some, None, Result, Ok, Err, Vec}
use Rattle.std.specs.declared.alloc.Global.{Global}
use Rattle.lgx_io.specs.declared.files.FileFault.{FileFault}
use Rattle.lgx_io.specs.declared.files.FileFault.TheVariants.{Failed, TooLong, Memory}
use Rattle.lgx_io.specs.declared.files.ReadCause.{ReadCause}

-- `OpenedFiles`: what opens them, and the reads that failed, each by its name and its cause
pub record OpenedState (O : Type 0) : Type 0 where
  pub opener : O
  pub failures : List (List ℕ × ReadCause)

-- `OnlyReader`: what the reader had at the start, if that is known, and whether it wasn't opened yet
pub record OnlyReaderState : Type 0 where
  pub contents : Option (List ℕ)
  pub is_left : Bool

-- if it is known which names were opened, this one was added
abbrev pub AddsName : Option (List (List ℕ)) → Option (List (List ℕ)) → List ℕ → Type 0
AddsName None new name = Unit {0}
AddsName (Some names) new name = new ≡ Some (names ++ name ∷ [])

-- an answer comes of opening this name once; where memory ran out, maybe before that
abbrev pub OpensOnce : Option (List (List ℕ)) → Option (List (List ℕ)) → List ℕ → Result (Vec ℕ Global) FileFault → Type 0
OpensOnce old new name (Ok bytes) = AddsName old new name
OpensOnce old new name (Err Failed) = AddsName old new name
OpensOnce old new name (Err (TooLong taken)) = AddsName old new name
OpensOnce old new name (Err Memory) = AddsName old new name ⊎ (new ≡ old)
