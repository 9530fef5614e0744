-- What a question asks of the journals of a script, and its answers.
use Rattle.std.specs.Prelude.{◌≡◌, ℕ, ◌+◌, ◌<◌, ℤ, pos, List, [], ◌∷◌, ◌++◌, take, slice_get, IsSomeAnd, IsTrue, Bool, true, false, not, ◌&&◌, nat_lt, nat_eq, int_lt, int_le, Option, Some, None}
use Rattle.std.specs.List.{list_all, list_any}
use Rattle.lgx_num.specs.Number.{int_eq}
use Rattle.lgx_num.specs.Image.{number}
use Rattle.spec_machine.specs.declared.answer.What.TheVariants.{Left}
use Rattle.spec_machine.specs.declared.event.Event.{Event}
use Rattle.spec_machine.specs.Events.{steps_of}
use Rattle.spec_machine.specs.Machine.{TraceEntry, OfStep, step, run}
use Rattle.spec_machine.specs.Project.{Project, Watch}
use Rattle.spec_machine.specs.State.{State, Answered}
use Rattle.spec_text.specs.declared.script.Timed.{Timed}
use Rattle.spec_text.specs.Scripts.{Script}
use Rattle.spec_schedule.specs.Partial.{IsPartial, IsComplete}
use Rattle.spec_lanes.specs.Turns.{ticks_of, next_of}
use Rattle.spec_explore.specs.declared.question.Comparison.{Comparison}
use Rattle.spec_explore.specs.declared.question.Comparison.TheVariants.{Equal, Differs, Less, AtMost, More, AtLeast}
use Rattle.spec_explore.specs.declared.question.Operand.{Operand}
use Rattle.spec_explore.specs.declared.question.Operand.TheVariants.{Number, Watched}
use Rattle.spec_explore.specs.declared.question.Test.{Test}
use Rattle.spec_explore.specs.declared.question.Never.{Never}
use Rattle.spec_explore.specs.declared.question.Question.{Question}

-- ---- what holds after an event

-- the number in a watched place, or 0 if there is none
abbrev pub number_in : List ℕ → Option Watch → ℤ
number_in image None = pos 0
number_in image (Some w) = number image w.place

abbrev pub watched : Project → State → ℕ → ℤ
watched p s n = number_in s.image (slice_get p.watches n)

abbrev pub compares : Comparison → ℤ → ℤ → Bool
compares Equal a b = int_eq a b
compares Differs a b = not (int_eq a b)
compares Less a b = int_lt a b
compares AtMost a b = int_le a b
compares More a b = int_lt b a
compares AtLeast a b = int_le b a

abbrev pub operand : Project → State → Operand → ℤ
operand p s (Number v) = v
operand p s (Watched n) = watched p s n

abbrev pub passes : Project → State → Test → Bool
passes p s t = compares t.comparison (watched p s t.watched) (operand p s t.operand)

-- a processor step with which a scan of the program ended
abbrev pub ends_scan : ℕ → TraceEntry → Bool
ends_scan q (OfStep m) = elim m.what [ Left t program ended ↦ ended && nat_eq program q | _ ↦ false ]
ends_scan q _ = false

abbrev pub is_asked : Option ℕ → TraceEntry → Bool
is_asked None x = true
is_asked (Some q) x = ends_scan q x

-- all of a line's tests hold of what an event left, and the line is asked there
abbrev pub holds : Project → Answered TraceEntry → Never → Bool
holds p x line = is_asked line.program x.answer && list_all (passes p x.state) line.tests

abbrev pub holds_some : Project → Question → Answered TraceEntry → Bool
holds_some p q x = list_any (holds p x) q.lines

-- the line with this number holds, and none before it
pub record IsFirstLine (p : Project) (q : Question) (x : Answered TraceEntry) (line : ℕ) : Type 0 where
  pub this : IsSomeAnd (slice_get q.lines line) (λ l. IsTrue (holds p x l))
  pub none_before : list_any (holds p x) (take line q.lines) ≡ false

-- ---- the window

-- here the lane's next action is late: its time is more than `most` ticks ago
abbrev pub is_late_at : ℕ → ℕ → Option Timed → Bool
is_late_at most now None = false
is_late_at most now (Some t) = nat_lt (t.at + most) now

abbrev pub is_late : Option ℕ → Script → List Event → ℕ → Bool
is_late None script journal lane = false
is_late (Some most) script journal lane = is_late_at most (ticks_of journal) (next_of script journal lane)

-- at no place of the journal is an action late, its end included
abbrev pub InWindow : Option ℕ → Script → List Event → Type 0
InWindow within script journal = (before after : List Event) (lane : ℕ) → journal ≡ before ++ after → is_late within script before lane ≡ false

-- ---- answers

-- no complete journal within the window has an event after which a line holds
abbrev pub IsNever : Project → Script → Question → Type 0
IsNever p script q =
    (before after : List Event) (e : Event) → IsComplete p script (before ++ e ∷ after) → InWindow q.within script (before ++ e ∷ after) → holds_some p q (step (run p before) e) ≡ false

-- A moment: the events before an event, and the event. Some partial journal within the window begins with them.
pub record IsMoment (p : Project) (script : Script) (within : Option ℕ) (before : List Event) (e : Event) : Type 0 where
  pub after : List Event
  pub counts : List ℕ
  pub partial : IsPartial p script counts (before ++ e ∷ after)
  pub window : InWindow within script (before ++ e ∷ after)

-- no line holds at a moment of fewer processor steps
abbrev pub IsNeverBefore : Project → Script → Question → ℕ → Type 0
IsNeverBefore p script q k =
    (before : List Event) (e : Event) → IsMoment p script q.within before e → steps_of (before ++ e ∷ []) < k → holds_some p q (step (run p before) e) ≡ false

-- a moment at which this line holds, as the first of the question; at none of fewer processor steps does a line hold
pub record IsWitness (p : Project) (script : Script) (q : Question) (before : List Event) (e : Event) (line : ℕ) : Type 0 where
  pub moment : IsMoment p script q.within before e
  pub first : IsFirstLine p q (step (run p before) e) line
  pub shortest : IsNeverBefore p script q (steps_of (before ++ e ∷ []))
