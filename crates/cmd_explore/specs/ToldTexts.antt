-- What is written of what is said of all journals of a script.
use Rattle.std.specs.Prelude.{◌≡◌, ℕ, ◌+◌, List, [], ◌∷◌, ◌++◌, length, codes, decimal, Ok, ⊤}
use Rattle.spec_machine.specs.declared.event.Event.{Event}
use Rattle.spec_machine.specs.Events.{steps_of}
use Rattle.spec_text.specs.TextLines.{line_of}
use Rattle.spec_text.specs.JournalText.{journal_of, text}
use Rattle.spec_lanes.specs.Turns.{ticks_of}
use Rattle.spec_explore.specs.declared.question.Question.{Question}
use Rattle.lgx_journal.specs.Written.{IsReadable}
use Rattle.lgx_walker.specs.declared.told.Told.{Told}
use Rattle.lgx_walker.specs.declared.told.Told.TheVariants as tell

-- `never N`: none of N lines ever holds
unfoldable pub never_line : ℕ → List ℕ
never_line lines = line_of (codes "never" ∷ decimal lines ∷ [])

-- `unknown K`: none holds in fewer than K processor steps
unfoldable pub unknown_line : ℕ → List ℕ
unknown_line steps = line_of (codes "unknown" ∷ decimal steps ∷ [])

-- `# line L after step K, tick T`
abbrev pub moment_words : ℕ → ℕ → List (List ℕ)
moment_words steps ticks = codes "after" ∷ codes "step" ∷ (decimal steps ++ 44 ∷ []) ∷ codes "tick" ∷ decimal ticks ∷ []

unfoldable pub comment_line : ℕ → ℕ → ℕ → List ℕ
comment_line line steps ticks = line_of (codes "#" ∷ codes "line" ∷ decimal line ∷ moment_words steps ticks)

-- a journal after whose last event the line with this number, from 0, holds: what the comment says of it, lines from 1; and its
-- canonical text
abbrev pub witness_text : List Event → ℕ → List ℕ
witness_text journal line = comment_line (line + 1) (steps_of journal) (ticks_of journal) ++ text journal

abbrev pub told_text : Question → Told → List ℕ
told_text q tell.Never = never_line (length q.lines)
told_text q (tell.Witness journal line) = witness_text journal.events line
told_text q (tell.Unknown steps) = unknown_line steps

-- within the limits of a journal that is read, the text of a journal is read as this journal
abbrev pub ReadsBack : Told → List ℕ → Type 0
ReadsBack (tell.Witness journal line) bytes = IsReadable journal.events → journal_of bytes ≡ Ok journal.events
ReadsBack _ bytes = ⊤

-- the text that is written
pub record IsToldText (q : Question) (told : Told) (bytes : List ℕ) : Type 0 where
  pub is : bytes ≡ told_text q told
  pub read_back : ReadsBack told bytes
