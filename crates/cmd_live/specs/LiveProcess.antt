-- All that a process does with its words.
use Rattle.std.specs.Prelude.{◌≡◌, ◌⊎◌, ℕ, List, []}
use Rattle.std.specs.Io.KnownBytes.{Keeps}
use Rattle.lgx_io.specs.Sink.{FaultsRose}
use Rattle.lgx_answer.specs.declared.status.Status.{Status}
use Rattle.lgx_answer.specs.declared.status.Status.TheVariants.{WriteFault}
use Rattle.lgx_answer.specs.Endings.{ending_of, number}
use Rattle.lgx_answer.specs.Answered.{Told, Failures, Change}
use Rattle.lgx_live.specs.Console.{ConsoleSeen, IsSameInput}
use Rattle.cmd_live.specs.LiveCall.{IsLive}

-- All that was put is written, nothing waits, and the number is that of the status.
pub record LeavesWritten (answer : Status) (old new : ConsoleSeen) (ends : ℕ) : Type 0 where
  pub exit : ends ≡ number answer
  pub written : new.waiting ≡ []
  pub faults : new.faults ≡ old.faults

-- It couldn't be written, which is one more fault, and the number is that of a write fault.
pub record LeavesUnwritten (old new : ConsoleSeen) (ends : ℕ) : Type 0 where
  pub exit : ends ≡ number WriteFault
  pub faults : FaultsRose old.faults new.faults

-- The one or the other. What was put stays the same, and no line is asked for.
pub record Leaves (answer : Status) (old new : ConsoleSeen) (ends : ℕ) : Type 0 where
  pub held : Keeps old.held new.held
  pub input : IsSameInput old new
  pub end : LeavesWritten answer old new ends ⊎ LeavesUnwritten old new ends

-- One call with the words, and then its output was written to the end. The process ends with the number of the call's status, or with
-- that of a write fault if the output couldn't be written.
pub record IsLiveProcess (words : List (List ℕ)) (told : Told) (failures : Change Failures) (old new : ConsoleSeen) (ends : ℕ) : Type 0 where
  pub status : Status
  -- the console after the call
  pub after : ConsoleSeen
  pub call : IsLive words (record { told = told; failures = failures; old = old; new = after; answer = ending_of status })
  pub leaves : Leaves status after new ends
