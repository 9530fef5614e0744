-- Questions on journals: what shows a line, what is late, moments; and texts of questions.
use Rattle.std.specs.Prelude.{◌≡◌, ℕ, ◌+◌, ℤ, pos, List, [], ◌∷◌, ◌++◌, map, Bool, true, false, Option, Some, None, Result, Ok, Err, codes, flat_map, replicate}
use Rattle.spec_base.specs.declared.limits.TheConstants.{OWN_LANE}
use Rattle.spec_machine.specs.declared.event.Action.TheVariants.{WordIn, ModeRun}
use Rattle.spec_machine.specs.declared.event.Event.{Event}
use Rattle.spec_machine.specs.declared.event.Event.TheVariants.{Cpu, Tick, Act}
use Rattle.spec_machine.specs.Machine.{step}
use Rattle.spec_machine.specs.Project.{Project}
use Rattle.spec_machine.specs.State.{State, start}
use Rattle.spec_text.specs.ReportText.{Names, names_of}
use Rattle.spec_text.specs.Scripts.{Script, script}
use Rattle.spec_explore.specs.declared.question.Comparison.{Comparison}
use Rattle.spec_explore.specs.declared.question.Comparison.TheVariants.{Equal, Differs, Less, AtMost, More, AtLeast}
use Rattle.spec_explore.specs.declared.question.Operand.{Operand}
use Rattle.spec_explore.specs.declared.question.Operand.TheVariants.{Number, Watched}
use Rattle.spec_explore.specs.declared.question.Test.{Test}
use Rattle.spec_explore.specs.declared.question.Never.{Never}
use Rattle.spec_explore.specs.declared.question.Question.{Question}
use Rattle.spec_explore.specs.declared.question.QuestionCode.{QuestionCode}
use Rattle.spec_explore.specs.declared.question.QuestionFault.{QuestionFault}
use Rattle.spec_explore.specs.Questions.{compares, holds_some, is_late, IsMoment}
use Rattle.spec_explore.specs.QuestionText.{question_of}
use Rattle.test_cases.specs.JournalCases.{cpu, tick, timed}
use Rattle.test_cases.specs.Samples.{bool, dint, continuous, plain, with_words, input, is_initially, lines}

-- ---- what shows a line

-- a bit is examined, which is on, and another one set to it: the third processor step sets b, and the fourth ends the scan
abbrev pub one_rung : Project
one_rung = plain (bool (codes "a") ∷ bool (codes "b") ∷ []) (continuous (codes "XIC(a)OTE(b);" ∷ []) ∷ []) (is_initially (codes "a") (pos 1) ∷ []) (codes "a" ∷ codes "b" ∷ [])

abbrev pub test : ℕ → Comparison → Operand → Test
test watched comparison operand = record { watched = watched; comparison = comparison; operand = operand }

abbrev pub never : List Test → Never
never tests = record { tests = tests; program = None }

abbrev pub never_at : ℕ → List Test → Never
never_at program tests = record { tests = tests; program = Some program }

abbrev pub asked : List Never → Question
asked ls = record { within = None; lines = ls }

-- after each of these events, whether a line holds
abbrev pub shown_from : Project → Question → State → List Event → List Bool
shown_from p q s [] = []
shown_from p q s (e ∷ es) = holds_some p q (step s e) ∷ shown_from p q (step s e).state es

abbrev pub shown : Project → Question → List Event → List Bool
shown p q journal = shown_from p q (start p) journal

abbrev pub five_steps : List Event
five_steps = Act OWN_LANE ModeRun ∷ cpu 5

-- the order of two numbers by each comparison: less, equal, more
abbrev pub orders : Comparison → List Bool
orders c = compares c (pos 1) (pos 2) ∷ compares c (pos 2) (pos 2) ∷ compares c (pos 2) (pos 1) ∷ []

-- ---- what is late

-- one action, from the first tick on, and a tick after each step
abbrev pub one_word : Script
one_word = script 5 1 ((timed 1 (WordIn (codes "In") 0 (pos 7)) ∷ []) ∷ [])

abbrev pub beat : ℕ → List Event
beat n = flat_map (λ (k : ℕ). cpu 1 ++ tick 1) (replicate n 0)

abbrev pub late_after : Option ℕ → ℕ → Bool
late_after within n = is_late within one_word (Act OWN_LANE ModeRun ∷ beat n) 0

-- after n ticks, with the action made
abbrev pub late_when_made : ℕ → Bool
late_when_made n = is_late (Some 0) one_word (Act OWN_LANE ModeRun ∷ beat n ++ Act 0 (WordIn (codes "In") 0 (pos 7)) ∷ beat 4) 0

-- ---- moments

-- a tick after every second step, and no lane
abbrev pub laneless_script : Script
laneless_script = script 4 2 []

-- the second step, before its tick; and the tick
abbrev pub SecondStep : Type 0
SecondStep = IsMoment one_rung laneless_script None (Act OWN_LANE ModeRun ∷ cpu 1) Cpu

abbrev pub FirstTick : Type 0
FirstTick = IsMoment one_rung laneless_script (Some 0) (Act OWN_LANE ModeRun ∷ cpu 2) Tick

-- ---- texts

-- three watched places and two programs
abbrev pub some_names : Names
some_names = record { tasks = codes "T" ∷ []; programs = codes "Main" ∷ codes "Fast" ∷ []; watches = codes "Fwd" ∷ codes "Rev" ∷ codes "Buf[2]" ∷ [] }

abbrev pub read : List (List ℕ) → Result Question QuestionFault
read ls = question_of some_names (lines ls)

abbrev pub refused_at : ℕ → QuestionCode → Result Question QuestionFault
refused_at line code = Err (record { code = code; line = line })

-- one line, and `end`
abbrev pub alone : List ℕ → Result Question QuestionFault
alone line = read (line ∷ codes "end" ∷ [])

abbrev pub both_on : Never
both_on = never (test 0 Equal (Number (pos 1)) ∷ test 1 Equal (Number (pos 1)) ∷ [])

-- lines of another form
abbrev pub formless_lines : List (List ℕ)
formless_lines =
    codes "always Fwd = 1"
    ∷ codes "never"
    ∷ codes "never Fwd = "
    ∷ codes "never Fwd == 1"
    ∷ codes "never Fwd = 1 and"
    ∷ codes "never Fwd = 1 or Rev = 1"
    ∷ codes "never Fwd = 1 at"
    ∷ codes "never Fwd = 1 at Main Fast"
    ∷ codes "never Fwd = 1 at Main and Rev = 1"
    ∷ codes "never Fwd = 2147483648"
    ∷ codes "never Fwd = -2147483649"
    ∷ codes "never Zz = 1x"
    ∷ codes "within"
    ∷ codes "within -1"
    ∷ codes "within 4294967296"
    ∷ codes "within 1 2"
    ∷ codes "Never Fwd = 1"
    ∷ []

-- a line with n tests more
abbrev pub with_tests : ℕ → List ℕ
with_tests n = codes "never Fwd = 1" ++ flat_map (λ (k : ℕ). codes " and Fwd = 1") (replicate n 0)
