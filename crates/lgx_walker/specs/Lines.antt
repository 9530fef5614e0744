-- The first line of a question that holds after an event, if one does.
use Rattle.std.specs.Prelude.{◌≡◌, ℕ, List, [], ◌∷◌, ◌++◌, Bool, true, false, if◌then◌else◌, Option, Some, None}
use Rattle.spec_machine.specs.declared.event.Event.{Event}
use Rattle.spec_machine.specs.declared.event.Event.TheVariants.{Cpu, Tick}
use Rattle.spec_machine.specs.Machine.{TraceEntry, step, run}
use Rattle.spec_machine.specs.Project.{Project}
use Rattle.spec_machine.specs.State.{Answered}
use Rattle.spec_explore.specs.declared.question.Question.{Question}
use Rattle.spec_explore.specs.Questions.{holds_some, IsFirstLine}
use Rattle.lgx_explore.specs.declared.node.Next.{Next}
use Rattle.lgx_explore.specs.declared.node.Next.TheVariants as next

abbrev pub IsLineOf : Project → Question → Answered TraceEntry → Option ℕ → Type 0
IsLineOf p q x None = holds_some p q x ≡ false
IsLineOf p q x (Some line) = IsFirstLine p q x line

-- a processor step, and its tick if it has one
abbrev pub step_events : Bool → List Event
step_events has_tick = if has_tick then Cpu ∷ Tick ∷ [] else Cpu ∷ []

-- after the step, or after the tick that it has, this line holds as the first
abbrev pub StepShows : Project → Question → List Event → Bool → Next → ℕ → Type 0
StepShows p q journal has_tick next.Step line = IsFirstLine p q (step (run p journal) Cpu) line
StepShows p q journal has_tick next.Tick line = (has_tick ≡ true) × IsFirstLine p q (step (run p (journal ++ Cpu ∷ [])) Tick) line
StepShows p q journal has_tick (next.Action lane) line = ⊥
