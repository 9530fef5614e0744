-- What the calls of a controller give: the machine's answer, and the machine's next state.
use Rattle.std.specs.Prelude.{Bool, true, false}
use Rattle.spec_machine.specs.declared.event.Action.{Action}
use Rattle.spec_machine.specs.declared.event.Action.TheVariants.{Accept, Test, Untest, Assemble, Cancel, ForceInstall, ForceEnable, ForceDisable, ForceRemove}
use Rattle.spec_machine.specs.State.{State, Answered}
use Rattle.lgx_steps.specs.declared.begins.Begins.{Begins}
use Rattle.lgx_steps.specs.declared.stretch.Stretch.{Stretch}
use Rattle.lgx_steps.specs.Gives.{MatchesAnswer}
use Rattle.lgx_steps.specs.Stretches.{IsStretch, after_steps}
use Rattle.lgx_core.specs.ControllerView.{ControllerView}
use Rattle.lgx_core.specs.Represents.{RepresentsController}

-- afterwards the controller represents that state
abbrev pub Gives : {A : Type 0} → ControllerView → A → Answered A → Type 0
Gives v answer x = MatchesAnswer (RepresentsController v) answer x

-- after a stretch of processor steps from this state
pub record StretchGives (v : ControllerView) (b : Begins) (x : Stretch) (s : State) : Type 0 where
  pub represents : RepresentsController v (after_steps x.steps s)
  pub is_stretch : IsStretch v.parts.image.watched b x s

-- ---- kinds of actions

-- one of the five edit commands
abbrev pub is_edit : Action → Bool
is_edit (Accept command) = true
is_edit (Test name) = true
is_edit (Untest name) = true
is_edit (Assemble name) = true
is_edit (Cancel name) = true
is_edit _ = false

-- one of the four commands on forces
abbrev pub is_force : Action → Bool
is_force (ForceInstall conn word mask value) = true
is_force ForceEnable = true
is_force ForceDisable = true
is_force ForceRemove = true
is_force _ = false
