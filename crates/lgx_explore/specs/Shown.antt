-- Events that may be made next of a journal, and what shows a line.
use Rattle.std.specs.Prelude.{◌≡◌, ℕ, ◌+◌, List, [], ◌∷◌, ◌++◌, Some, false, ⊤}
use Rattle.spec_machine.specs.declared.event.Action.{Action}
use Rattle.spec_machine.specs.declared.event.Event.{Event}
use Rattle.spec_machine.specs.declared.event.Event.TheVariants.{Act, Cpu, Tick}
use Rattle.spec_machine.specs.Events.{steps_of}
use Rattle.spec_machine.specs.Machine.{step, run}
use Rattle.spec_machine.specs.Project.{Project}
use Rattle.spec_text.specs.Scripts.{Script}
use Rattle.spec_lanes.specs.Turns.{due_action, is_spent, paced_step}
use Rattle.spec_explore.specs.declared.question.Question.{Question}
use Rattle.spec_explore.specs.Questions.{InWindow, IsFirstLine, IsWitness}
use Rattle.lgx_explore.specs.declared.node.Next.{Next}
use Rattle.lgx_explore.specs.declared.node.Next.TheVariants as next
use Rattle.lgx_explore.specs.declared.node.Stop.{Stop}
use Rattle.lgx_explore.specs.declared.node.Stop.TheVariants as stops
use Rattle.lgx_explore.specs.declared.halt.Full.{Full}
use Rattle.lgx_explore.specs.declared.halt.Full.TheVariants as full

-- The event may be made next of a partial journal within the window: a due action, a processor step, or the tick that a
-- step is to have. The events before it are the journal's, and the step's at a tick.
pub data MayBeMade (p : Project) (script : Script) (q : Question) (journal : List Event) : Next → List Event → Event → Type 0 where
  AnAction : (lane : ℕ) (action : Action) → due_action p script journal lane ≡ Some action → InWindow q.within script (journal ++ Act lane action ∷ []) → MayBeMade p script q journal (next.Action lane) journal (Act lane action)
  AStep : is_spent p script journal ≡ false → InWindow q.within script (journal ++ paced_step script.pace (steps_of journal + 1)) → MayBeMade p script q journal next.Step journal Cpu
  ATick : is_spent p script journal ≡ false → paced_step script.pace (steps_of journal + 1) ≡ Cpu ∷ Tick ∷ [] → InWindow q.within script (journal ++ Cpu ∷ Tick ∷ []) → MayBeMade p script q journal next.Tick (journal ++ Cpu ∷ []) Tick

-- it may be made, and the line with this number is the first that holds after it
pub record Shows (p : Project) (script : Script) (q : Question) (journal : List Event) (made : Next) (line : ℕ) : Type 0 where
  pub before : List Event
  pub event : Event
  pub may : MayBeMade p script q journal made before event
  pub first : IsFirstLine p q (step (run p before) event) line

-- it is a witness, too
pub record IsShown (p : Project) (script : Script) (q : Question) (journal : List Event) (made : Next) (line : ℕ) : Type 0 where
  pub before : List Event
  pub event : Event
  pub may : MayBeMade p script q journal made before event
  pub witness : IsWitness p script q before event line

-- of an event that shows a line; other reasons say nothing
abbrev pub IfShown : Stop → (Next → ℕ → Type 0) → Type 0
IfShown (stops.Shown made line) P = P made line
IfShown _ P = ⊤

-- an action
abbrev pub IsAction : Next → Type 0
IsAction (next.Action lane) = ⊤
IsAction _ = ⊥

-- a node that isn't added stops as this
abbrev pub stop_of : Full → Stop
stop_of full.Limit = stops.Limit
stop_of full.Memory = stops.Memory
