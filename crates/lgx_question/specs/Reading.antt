-- How a reader's answer relates to what its definition says.
use Rattle.std.specs.Prelude.{◌≡◌, ℕ, List, [], ◌∷◌, ◌++◌, map, length, nat_lt, nat_le, ◌&&◌, Bool, Option, Some, None, option_map, if◌then◌else◌, codes, Result, Ok, ⊤}
use Rattle.std.specs.Str.{bytes_eq}
use Rattle.spec_explore.specs.declared.question.Test.{Test}
use Rattle.spec_explore.specs.declared.question.Question.{Question}
use Rattle.spec_explore.specs.declared.question.QuestionCode.{QuestionCode}
use Rattle.spec_explore.specs.declared.question.QuestionFault.{QuestionFault}
use Rattle.spec_explore.specs.QuestionText.{SaidNever, test_of_names, program_of_names, all_found, never_said, test_said, is_untouched}
use Rattle.spec_text.specs.ReportText.{Names}
use Rattle.spec_base.specs.declared.limits.TheConstants.{MAX_QUESTION_LINES, MAX_QUESTION_TESTS}
use Rattle.spec_explore.specs.declared.question.QuestionCode.TheVariants.{Q2, Q3, Q4}
use Rattle.spec_base.specs.FirstCause.{◌>>=◌, unless, some_or}
use Rattle.lgx_question.specs.declared.tests.FoundNever.{FoundNever}
use Rattle.lgx_question.specs.declared.error.QuestionError.{QuestionError}
use Rattle.lgx_question.specs.declared.error.QuestionError.TheVariants as whole
use Rattle.lgx_question.specs.declared.error.LineError.{LineError}
use Rattle.lgx_question.specs.declared.error.LineError.TheVariants as one

-- of a fault that is answered; running out of memory says nothing
abbrev pub IfLine : QuestionError → (QuestionFault → Type 0) → Type 0
IfLine (whole.Line fault) P = P fault
IfLine whole.Memory P = ⊤

abbrev pub IfCode : LineError → (QuestionCode → Type 0) → Type 0
IfCode (one.Code code) P = P code
IfCode one.Memory P = ⊤

-- the error of a line, by its number
abbrev pub error_at : LineError → ℕ → QuestionError
error_at (one.Code code) n = whole.Line (record { code = code; line = n })
error_at one.Memory n = whole.Memory

-- ---- the tests of a line

-- what is said, with names found or not
abbrev pub found : Names → SaidNever → FoundNever
found names n = record { tests = all_found (map (test_of_names names) n.tests); program = program_of_names names n.program }

abbrev pub never_found : Names → List (List ℕ) → Option FoundNever
never_found names ws = option_map (found names) (never_said ws)

-- the tests so far, unless a name was missing
abbrev pub seen : List Test → Bool → Option (List Test)
seen tests missing = if missing then None else Some tests

-- one test more, unless one of its names was missing
abbrev pub single : Option Test → Option (List Test)
single None = None
single (Some t) = Some (t ∷ [])

abbrev pub both : Option (List Test) → Option (List Test) → Option (List Test)
both (Some xs) (Some ys) = Some (xs ++ ys)
both _ _ = None

-- these words are a test, which is this one if its names are found, and the rest
pub record IsTest (names : Names) (ws : List (List ℕ)) (test : Option Test) (rest : List (List ℕ)) : Type 0 where
  pub tag : List ℕ
  pub sign : List ℕ
  pub value : List ℕ
  pub is : ws ≡ tag ∷ sign ∷ value ∷ rest
  pub said : Some test ≡ option_map (test_of_names names) (test_said tag sign value)

-- tests that end with `at PROGRAM`
abbrev pub program_alone : Names → Option (List Test) → List (List ℕ) → Option FoundNever
program_alone names tests (program ∷ []) = Some (record { tests = tests; program = program_of_names names (Some program) })
program_alone names tests _ = None

abbrev pub ends_at : Names → Option (List Test) → List ℕ → List (List ℕ) → Option FoundNever
ends_at names tests word ws = if bytes_eq word (codes "at") then program_alone names tests ws else None

-- ---- a question with a line more

abbrev pub within_of_question : Question → ℕ → Result Question QuestionCode
within_of_question q ticks = do
  _ ← unless (is_untouched q) Q4
  Ok (record q { within = Some ticks })

abbrev pub found_of_question : Question → FoundNever → Result Question QuestionCode
found_of_question q n = do
  tests ← some_or n.tests Q2
  program ← some_or n.program Q3
  _ ← unless (nat_lt (length q.lines) MAX_QUESTION_LINES && nat_le (length tests) MAX_QUESTION_TESTS) Q4
  Ok (record q { lines = q.lines ++ record { tests = tests; program = program } ∷ [] })
