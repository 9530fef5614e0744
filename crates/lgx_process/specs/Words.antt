-- The words of a command line, and what a process does with them.
use Rattle.std.specs.Prelude.{◌≡◌, ◌≢◌, ◌⊎◌, ℕ, List, [], map, drop, replicate, string_bytes, MatchResult, Result, String}
use Rattle.std.specs.Vec.Iter.{into_iter_items}
use Rattle.std.specs.declared.alloc.Global.{Global}
use Rattle.std.specs.declared.vec.IntoIter.{IntoIter}
use Rattle.std.specs.IoError.{error_kind}
use Rattle.std.specs.declared.io.Error.{Error}
use Rattle.std.specs.declared.io.ErrorKind.TheVariants.{OutOfMemory}
use Rattle.lgx_answer.specs.declared.status.Status.TheVariants as status
use Rattle.lgx_answer.specs.Endings.{number}
use Rattle.lgx_answer.specs.Answered.{Failures, Change}

-- What the system answers for the arguments: texts, of which the first is the program's own name, or why there are none.
abbrev pub Arguments : Type 0
Arguments = Result (IntoIter (String Global) Global) Error

-- These are the words of the arguments: all texts but the first. Four empty ones, which no program takes, stand for arguments that
-- aren't text. There are none if there was no memory for the arguments.
abbrev pub AreWords : Arguments → List (List ℕ) → Type 0
AreWords arguments words = MatchResult arguments
    (λ texts. words ≡ drop 1 (map string_bytes (into_iter_items texts)))
    (λ fault. (error_kind fault ≢ OutOfMemory) × (words ≡ replicate 4 []))

-- Memory ran out for the words: no read failed, the output is as before, and the number is that of `Memory`.
pub record HasNoWords (Output : Type 0) (failures : Change Failures) (output : Change Output) (ends : ℕ) : Type 0 where
  pub exit : ends ≡ number status.Memory
  pub read : failures.new ≡ failures.old
  pub put : output.new ≡ output.old

-- The process does this with its words, or memory ran out for them.
abbrev pub WithWords : (Output : Type 0) → Arguments → Change Failures → Change Output → ℕ → (List (List ℕ) → Type 0) → Type 0
WithWords Output arguments failures output ends does =
    ((words : List (List ℕ)) × AreWords arguments words × does words) ⊎ HasNoWords Output failures output ends
