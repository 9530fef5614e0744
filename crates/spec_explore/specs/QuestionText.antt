-- The text of a question: what its lines say, and the first line that is refused with its first cause.
use Rattle.std.specs.Prelude.{ℕ, ◌+◌, ℤ, List, [], ◌∷◌, ◌++◌, length, position, map, Bool, true, false, ◌&&◌, ◌||◌, nat_eq, nat_lt, nat_le, if◌then◌else◌, Option, Some, None, option_map, Result, Ok, Err, codes}
use Rattle.std.specs.Char.{is_ascii_digit}
use Rattle.std.specs.Str.{bytes_eq}
use Rattle.lgx_num.specs.Name.{same}
use Rattle.spec_base.specs.declared.limits.TheConstants.{MAX_QUESTION_LINES, MAX_QUESTION_TESTS}
use Rattle.spec_base.specs.FirstCause.{◌>>=◌, unless, some_or}
use Rattle.spec_text.specs.TextLines.{lines, is_skipped, words, unsigned_of, signed_of}
use Rattle.spec_text.specs.JournalText.{is_end, is_line}
use Rattle.spec_text.specs.ReportText.{Names}
use Rattle.spec_explore.specs.declared.question.Comparison.{Comparison}
use Rattle.spec_explore.specs.declared.question.Comparison.TheVariants.{Equal, Differs, Less, AtMost, More, AtLeast}
use Rattle.spec_explore.specs.declared.question.Operand.{Operand}
use Rattle.spec_explore.specs.declared.question.Operand.TheVariants.{Number, Watched}
use Rattle.spec_explore.specs.declared.question.Test.{Test}
use Rattle.spec_explore.specs.declared.question.Never.{Never}
use Rattle.spec_explore.specs.declared.question.Question.{Question}
use Rattle.spec_explore.specs.declared.question.QuestionCode.{QuestionCode}
use Rattle.spec_explore.specs.declared.question.QuestionCode.TheVariants.{Q1, Q2, Q3, Q4}
use Rattle.spec_explore.specs.declared.question.QuestionFault.{QuestionFault}

-- ---- words

abbrev pub signs : List (List ℕ × Comparison)
signs = (codes "=", Equal) ∷ (codes "<>", Differs) ∷ (codes "<", Less) ∷ (codes "<=", AtMost) ∷ (codes ">", More) ∷ (codes ">=", AtLeast) ∷ []

abbrev pub sign_in : List (List ℕ × Comparison) → List ℕ → Option Comparison
sign_in [] word = None
sign_in (s ∷ ss) word = if bytes_eq word s.0 then Some s.1 else sign_in ss word

-- a word that begins with a digit or with `-` is to be a number; others are names
abbrev pub begins_number : List ℕ → Bool
begins_number [] = false
begins_number (c ∷ cs) = nat_eq c 45 || is_ascii_digit c

-- ---- what a line says, with names in place of numbers

pub data SaidValue : Type 0 where
  ANumber : ℤ → SaidValue
  AName : List ℕ → SaidValue

pub record SaidTest : Type 0 where
  pub tag : List ℕ
  pub comparison : Comparison
  pub value : SaidValue

pub record SaidNever : Type 0 where
  pub tests : List SaidTest
  pub program : Option (List ℕ)

pub data SaidLine : Type 0 where
  SaysWithin : ℕ → SaidLine
  SaysNever : SaidNever → SaidLine

abbrev pub value_said : List ℕ → Option SaidValue
value_said word = if begins_number word then option_map ANumber (signed_of word) else Some (AName word)

abbrev pub test_from : List ℕ → Option Comparison → Option SaidValue → Option SaidTest
test_from tag (Some comparison) (Some value) = Some (record { tag = tag; comparison = comparison; value = value })
test_from tag _ _ = None

abbrev pub test_said : List ℕ → List ℕ → List ℕ → Option SaidTest
test_said tag sign value = test_from tag (sign_in signs sign) (value_said value)

abbrev pub last_test : Option (List ℕ) → Option SaidTest → Option SaidNever
last_test program o = option_map (λ t. record { tests = t ∷ []; program = program }) o

abbrev pub before_tests : Option SaidTest → Option SaidNever → Option SaidNever
before_tests (Some t) (Some n) = Some (record n { tests = t ∷ n.tests })
before_tests _ _ = None

abbrev pub in_program : List (List ℕ) → Option SaidTest → Option SaidNever
in_program (program ∷ []) o = last_test (Some program) o
in_program _ o = None

-- `TAG SIGN VALUE`, and then nothing, `and` and more tests, or `at PROGRAM`
abbrev pub never_said : List (List ℕ) → Option SaidNever
never_said (tag ∷ sign ∷ value ∷ []) = last_test None (test_said tag sign value)
never_said (tag ∷ sign ∷ value ∷ word ∷ rest) = if bytes_eq word (codes "and") then before_tests (test_said tag sign value) (never_said rest) else if bytes_eq word (codes "at") then in_program rest (test_said tag sign value) else None
never_said _ = None

abbrev pub within_said : List (List ℕ) → Option ℕ
within_said (number ∷ []) = unsigned_of number
within_said _ = None

-- `within TICKS` or `never TESTS`
abbrev pub line_said : List (List ℕ) → Option SaidLine
line_said [] = None
line_said (verb ∷ rest) = if bytes_eq verb (codes "within") then option_map SaysWithin (within_said rest) else if bytes_eq verb (codes "never") then option_map SaysNever (never_said rest) else None

-- ---- names

-- the number of the first name that is the same when case is ignored
abbrev pub named : List (List ℕ) → List ℕ → Option ℕ
named names name = position (λ n. same n name) names

abbrev pub value_of_names : Names → SaidValue → Option Operand
value_of_names names (ANumber v) = Some (Number v)
value_of_names names (AName name) = option_map Watched (named names.watches name)

abbrev pub found_test : Comparison → Option ℕ → Option Operand → Option Test
found_test comparison (Some watched) (Some operand) = Some (record { watched = watched; comparison = comparison; operand = operand })
found_test comparison _ _ = None

abbrev pub test_of_names : Names → SaidTest → Option Test
test_of_names names t = found_test t.comparison (named names.watches t.tag) (value_of_names names t.value)

-- all of them, unless one has a name that no watched place has
abbrev pub all_found : List (Option Test) → Option (List Test)
all_found [] = Some []
all_found (None ∷ os) = None
all_found (Some t ∷ os) = option_map (λ ts. t ∷ ts) (all_found os)

-- a line without a program has none; no program has a name that isn't found
abbrev pub program_of_names : Names → Option (List ℕ) → Option (Option ℕ)
program_of_names names None = Some None
program_of_names names (Some name) = option_map Some (named names.programs name)

-- ---- the first cause of a line

abbrev pub is_untouched : Question → Bool
is_untouched q = untouched q.within q.lines
  where
    untouched : Option ℕ → List Never → Bool
    untouched None [] = true
    untouched _ _ = false

-- the question with what the line says, or the line's first cause after its form
abbrev pub said_of_question : Names → Question → SaidLine → Result Question QuestionCode
said_of_question names q (SaysWithin ticks) = do
  _ ← unless (is_untouched q) Q4
  Ok (record q { within = Some ticks })
said_of_question names q (SaysNever said) = do
  tests ← some_or (all_found (map (test_of_names names) said.tests)) Q2
  program ← some_or (program_of_names names said.program) Q3
  _ ← unless (nat_lt (length q.lines) MAX_QUESTION_LINES && nat_le (length tests) MAX_QUESTION_TESTS) Q4
  Ok (record q { lines = q.lines ++ record { tests = tests; program = program } ∷ [] })

abbrev pub read_question_line : Names → Question → List ℕ → Result Question QuestionCode
read_question_line names q line = do
  _ ← unless (is_line line) Q1
  said ← some_or (line_said (words line)) Q1
  said_of_question names q said

-- ---- the first line that has a cause

abbrev pub question_refused : ℕ → QuestionCode → Result Question QuestionFault
question_refused n code = Err (record { code = code; line = n })

-- a question that has a line, at `end`
abbrev pub ended : ℕ → Question → Result Question QuestionFault
ended n q = elim q.lines [ [] ↦ question_refused n Q4 | l ∷ ls ↦ Ok q ]

-- the lines from number n on, after a text that said this; a text without `end` is refused at the line after its last
abbrev pub question_from : Names → ℕ → Question → List (List ℕ) → Result Question QuestionFault
question_from names n q [] = question_refused n Q1
question_from names n q (l ∷ ls) =
    elim (is_skipped l) [
      | true ↦ question_from names (n + 1) q ls
      | false ↦ elim (is_end l && is_line l) [
        | true ↦ ended n q
        | false ↦ elim (read_question_line names q l) [ Err code ↦ question_refused n code | Ok q' ↦ question_from names (n + 1) q' ls ]
      ]
    ]

abbrev pub unasked : Question
unasked = record { within = None; lines = [] }

-- the question that a text is, or the first line with a cause and its first cause
abbrev pub question_of : Names → List ℕ → Result Question QuestionFault
question_of names bytes = question_from names 1 unasked (lines bytes)
