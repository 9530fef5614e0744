-- Which line of a question is shown by values of the watched places, and by the program whose scan ended.
use Rattle.std.specs.Prelude.{◌≡◌, ℕ, ℤ, pos, List, map, Bool, true, false, ◌&&◌, nat_eq, Option, Some, None, slice_get, position}
use Rattle.std.specs.List.{list_all}
use Rattle.lgx_num.specs.Image.{number}
use Rattle.spec_machine.specs.State.{Answered}
use Rattle.spec_machine.specs.Machine.{TraceEntry}
use Rattle.spec_machine.specs.Project.{Project, Watch}
use Rattle.spec_explore.specs.declared.question.Operand.{Operand}
use Rattle.spec_explore.specs.declared.question.Operand.TheVariants.{Number, Watched}
use Rattle.spec_explore.specs.declared.question.Test.{Test}
use Rattle.spec_explore.specs.declared.question.Never.{Never}
use Rattle.spec_explore.specs.declared.question.Question.{Question}
use Rattle.spec_explore.specs.Questions.{compares, ends_scan, holds_some, IsFirstLine}

abbrev pub value_or_zero : Option ℤ → ℤ
value_or_zero None = pos 0
value_or_zero (Some v) = v

abbrev pub operand_in : List ℤ → Operand → ℤ
operand_in values (Number v) = v
operand_in values (Watched n) = value_or_zero (slice_get values n)

abbrev pub passes_in : List ℤ → Test → Bool
passes_in values t = compares t.comparison (value_or_zero (slice_get values t.watched)) (operand_in values t.operand)

abbrev pub is_program : ℕ → Option ℕ → Bool
is_program q None = false
is_program q (Some n) = nat_eq n q

abbrev pub is_asked_in : Option ℕ → Option ℕ → Bool
is_asked_in ended None = true
is_asked_in ended (Some q) = is_program q ended

abbrev pub holds_in : List ℤ → Option ℕ → Never → Bool
holds_in values ended line = is_asked_in ended line.program && list_all (passes_in values) line.tests

-- what an event left has these values, and the event ended the scan of this program, if it ended one
pub record IsSeen (p : Project) (x : Answered TraceEntry) (values : List ℤ) (ended : Option ℕ) : Type 0 where
  pub values_are : values ≡ map (λ (w : Watch). number x.state.image w.place) p.watches
  pub ended_is : (q : ℕ) → ends_scan q x.answer ≡ is_program q ended

-- so the first line of these is the first that holds after the event
abbrev pub FirstLinesAreSeen : Type 0
FirstLinesAreSeen =
    (p : Project) (x : Answered TraceEntry) (values : List ℤ) (ended : Option ℕ) (q : Question) (line : ℕ) → IsSeen p x values ended → position (holds_in values ended) q.lines ≡ Some line → IsFirstLine p q x line

-- and if there is none, no line holds
abbrev pub NoLineIsSeen : Type 0
NoLineIsSeen =
    (p : Project) (x : Answered TraceEntry) (values : List ℤ) (ended : Option ℕ) (q : Question) → IsSeen p x values ended → position (holds_in values ended) q.lines ≡ None → holds_some p q x ≡ false
