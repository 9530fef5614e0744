-- A process that has its words, and one that has no memory for them.
use Rattle.std.proofs.Common.{◌≡◌, ℕ, List, inl, inr, refl}
use Rattle.lgx_answer.specs.declared.status.Status.TheVariants as status
use Rattle.lgx_answer.specs.Endings.{number}
use Rattle.lgx_answer.specs.Answered.{Failures, Change}
use Rattle.lgx_process.specs.Words.{Arguments, AreWords, WithWords}

pub with_words : (Output : Type 0) (arguments : Arguments) (failures : Change Failures) (output : Change Output) (ends : ℕ) (does : List (List ℕ) → Type 0) (words : List (List ℕ))
    → AreWords arguments words → does words → WithWords Output arguments failures output ends does
with_words Output arguments failures output ends does words are d = inl (words, are, d)

pub without_words : (Output : Type 0) (arguments : Arguments) (failures : Failures) (output : Output) (ends : ℕ) (does : List (List ℕ) → Type 0) → ends ≡ number status.Memory
    → WithWords Output arguments (record { old = failures; new = failures }) (record { old = output; new = output }) ends does
without_words Output arguments failures output ends does is = inr (record { exit = is; read = refl; put = refl })
