-- The text of each answer.
use Rattle.std.proofs.Common.{◌≡◌, ℕ, List, [], ◌∷◌, ◌++◌, length, codes, Ok, sym, subst, append_assoc, append-nil}
use Rattle.spec_machine.specs.Project.{Project}
use Rattle.spec_text.specs.Scripts.{Script}
use Rattle.spec_text.specs.JournalText.{journal_of}
use Rattle.spec_explore.specs.declared.question.Question.{Question}
use Rattle.lgx_journal.specs.Journals.{JournalView}
use Rattle.lgx_journal.specs.Written.{IsReadable}
use Rattle.lgx_watch.specs.Spaces.{after_spaces}
use Rattle.lgx_walker.specs.declared.told.Told.{Told}
use Rattle.lgx_walker.specs.declared.told.Told.TheVariants as tell
use Rattle.lgx_walker.specs.Told.{IsTold}
use Rattle.lgx_answer.specs.declared.status.Verdict.{Verdict}
use Rattle.lgx_answer.specs.Plan.{Says}
use Rattle.cmd_explore.specs.ToldTexts.{never_line, unknown_line, witness_text, IsToldText}
use Rattle.cmd_explore.specs.ExplorePlan.{verdict_of, answered}

pub never_told : (q : Question) (bytes : List ℕ) → bytes ≡ never_line (length q.lines) → IsToldText q tell.Never bytes
never_told q bytes is = record { is = is; read_back = tt }

pub unknown_told : (q : Question) (steps : ℕ) (bytes : List ℕ) → bytes ≡ unknown_line steps → IsToldText q (tell.Unknown steps) bytes
unknown_told q steps bytes is = record { is = is; read_back = tt }

pub witness_told : (q : Question) (journal : JournalView) (line : ℕ) (bytes : List ℕ) → bytes ≡ witness_text journal.events line
    → (IsReadable journal.events → journal_of bytes ≡ Ok journal.events) → IsToldText q (tell.Witness journal line) bytes
witness_told q journal line bytes is back = record { is = is; read_back = back }

-- what is so is an answer, with its verdict and its text
pub answer_says : (p : Project) (script : Script) (q : Question) (told : Told) (said : Verdict) (bytes shown : List ℕ)
    → IsTold p script q told → said ≡ verdict_of told → shown ≡ bytes → IsToldText q told bytes → Says (answered p script q) said shown
answer_says p script q told said bytes shown is is_said same text =
    (record { told = told; is = is }, (is_said, subst (λ (t : List ℕ). IsToldText q told t) (sym same) text))

-- what is behind a text in words, one after another
pub moment_grouped : (t s k : List ℕ) → (((((t ++ 32 ∷ codes "after") ++ 32 ∷ codes "step") ++ 32 ∷ s) ++ 44 ∷ []) ++ 32 ∷ codes "tick") ++ 32 ∷ k ≡ t ++ after_spaces (codes "after" ∷ codes "step" ∷ (s ++ 44 ∷ []) ∷ codes "tick" ∷ k ∷ [])
moment_grouped t s k = simp (append_assoc, append-nil)
