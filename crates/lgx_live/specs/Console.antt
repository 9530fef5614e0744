-- A console, and what each of its methods does.
use Rattle.std.specs.Prelude.{◌≡◌, ℕ, List, [], ◌∷◌, ◌++◌, Option, Some, None, IfSome, Bool, true, false, Result, Ok, Err, OnOk, IsErrOf}
use Rattle.spec_base.specs.Pieces.{has_byte}
use Rattle.lgx_io.specs.declared.sink.SinkFault.{SinkFault}
use Rattle.lgx_io.specs.declared.sink.SinkFault.TheVariants.{Memory}
use Rattle.lgx_io.specs.Sink.{FaultsRose}
use Rattle.lgx_answer.specs.Puts.{Puts}
use Rattle.lgx_live.specs.declared.console.AskFault.{AskFault}
use Rattle.lgx_live.specs.declared.console.AskFault.TheVariants as ask

-- The lines that are still to come, if they are known; what was written each time that a line was asked for, if that is known; the
-- bytes that were put, if they are known, and those of them that wait to be written; how often a put or a flush failed, and how
-- often a read did.
pub record ConsoleSeen : Type 0 where
  pub lines : Option (List (List ℕ))
  pub asked : Option (List (List ℕ))
  pub held : Option (List ℕ)
  pub waiting : List ℕ
  pub faults : ℕ
  pub misses : ℕ

-- known lines begin with these, and lose them
abbrev pub Gives : Option (List (List ℕ)) → Option (List (List ℕ)) → List (List ℕ) → Type 0
Gives None new ls = Unit {0}
Gives (Some xs) None ls = ⊥
Gives (Some xs) (Some ys) ls = xs ≡ ls ++ ys

-- to a known list these texts were added; a text that isn't known says nothing
abbrev pub AddsAsks : Option (List (List ℕ)) → Option (List (List ℕ)) → Option (List ℕ) → (List ℕ → List (List ℕ)) → Type 0
AddsAsks None new held texts = Unit {0}
AddsAsks (Some before) new None texts = Unit {0}
AddsAsks (Some before) new (Some held) texts = new ≡ Some (before ++ texts held)

-- the output is as before
pub record IsSameOutput (old new : ConsoleSeen) : Type 0 where
  pub held : new.held ≡ old.held
  pub waiting : new.waiting ≡ old.waiting
  pub faults : new.faults ≡ old.faults

-- the input is as before
pub record IsSameInput (old new : ConsoleSeen) : Type 0 where
  pub lines : new.lines ≡ old.lines
  pub asked : new.asked ≡ old.asked
  pub misses : new.misses ≡ old.misses

-- A line is asked for while nothing waits. The next line comes, without its line feed; or there is none; or the read failed.
pub record Asks (old new : ConsoleSeen) (line : List ℕ) (result : Result Bool AskFault) : Type 0 where
  pub asked : AddsAsks old.asked new.asked old.held (λ held. held ∷ [])
  pub output : IsSameOutput old new
  pub came : result ≡ Ok true → Gives old.lines new.lines (line ∷ [])
  pub clean : result ≡ Ok true → has_byte 10 line ≡ false
  pub ended : result ≡ Ok false → IfSome old.lines (λ lines. lines ≡ [])
  pub failed : result ≡ Err ask.Failed → FaultsRose old.misses new.misses
  pub unfailed : (result ≡ Err ask.Failed → ⊥) → new.misses ≡ old.misses

-- The text was put, or a first part of it.
pub record Says (old new : ConsoleSeen) (text : List ℕ) (result : Result (Unit {0}) SinkFault) : Type 0 where
  pub puts : Puts (record { old = old.held; new = new.held }) (record { old = old.faults; new = new.faults }) text result
  pub input : IsSameInput old new

-- All that was put is written, or that failed. It takes no memory.
pub record Flushes (old new : ConsoleSeen) (result : Result (Unit {0}) SinkFault) : Type 0 where
  pub says : Says old new [] result
  pub written : OnOk result (new.waiting ≡ [])
  pub no_memory : IsErrOf result Memory → ⊥
