-- What it means that a controller represents a state of the machine, and that it stands for a run of a project.
use Rattle.std.specs.Prelude.{◌≡◌, ◌-◌, ◌≤◌, ◌++◌, List, [], ◌∷◌, length, replicate}
use Rattle.spec_base.specs.declared.limits.TheConstants.{MAX_EVENTS}
use Rattle.spec_machine.specs.declared.event.Event.{Event}
use Rattle.spec_machine.specs.declared.event.Event.TheVariants.{Cpu}
use Rattle.spec_machine.specs.Machine.{TraceEntry, OfStep, event_of, run, trace}
use Rattle.spec_machine.specs.Project.{Project}
use Rattle.spec_machine.specs.State.{State}
use Rattle.spec_machine.specs.ValidProject.{IsValidProject}
use Rattle.lgx_steps.specs.declared.stretch.Stretch.{Stretch}
use Rattle.lgx_steps.specs.Represents.{RepresentsState}
use Rattle.lgx_core.specs.ControllerView.{ControllerView}

-- Its parts represent this state, which no more events led to than it counted.
pub record RepresentsController (v : ControllerView) (s : State) : Type 0 where
  pub room : v.spent ≤ MAX_EVENTS
  pub parts : RepresentsState v.spent v.parts s

-- It stands for a run of a valid project: it counted these events, and represents the state that they lead to.
pub record StandsFor (p : Project) (events : List Event) (v : ControllerView) : Type 0 where
  pub valid : IsValidProject p
  pub counted : v.spent ≡ length events
  pub represents : RepresentsController v (run p events)

-- it stands for some run of some valid project
pub record IsController (v : ControllerView) : Type 0 where
  pub project : Project
  pub events : List Event
  pub stands : StandsFor project events v

-- ---- an event

-- A run goes on with an event: the controller stands for it, and the machine gives the event this answer.
pub record HasEvent (p : Project) (events : List Event) (entry : TraceEntry) (v : ControllerView) : Type 0 where
  pub stands : StandsFor p (events ++ event_of entry ∷ []) v
  pub answers : trace p (events ++ event_of entry ∷ []) ≡ trace p events ++ entry ∷ []

-- whichever run a controller stood for, this run goes on with the event
abbrev pub GoesOn : ControllerView → ControllerView → TraceEntry → Type 0
GoesOn old new entry = (p : Project) (events : List Event) → StandsFor p events old → HasEvent p events entry new

-- ---- a stretch of processor steps

-- A run goes on with the processor steps of a stretch: the controller stands for it, and the machine gives the last of them this
-- answer.
pub record HasSteps (p : Project) (events : List Event) (x : Stretch) (v : ControllerView) : Type 0 where
  pub stands : StandsFor p (events ++ replicate x.steps Cpu) v
  pub answers : trace p (events ++ replicate x.steps Cpu) ≡ trace p (events ++ replicate (x.steps - 1) Cpu) ++ OfStep x.last ∷ []

-- whichever run a controller stood for, this run goes on with the steps
abbrev pub GoesOnBy : ControllerView → ControllerView → Stretch → Type 0
GoesOnBy old new x = (p : Project) (events : List Event) → StandsFor p events old → HasSteps p events x new
