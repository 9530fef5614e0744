-- The controller as contracts see it.
use Rattle.std.specs.Prelude.{ℕ}
use Rattle.lgx_steps.specs.declared.parts.ControllerParts.{ControllerParts}
use Rattle.lgx_steps.specs.PartsView.{PartsView, view_of as parts_of}

-- its parts, and how many events it counted
pub record ControllerView : Type 0 where
  pub parts : PartsView
  pub spent : ℕ

abbrev pub view_of : ControllerParts → ℕ → ControllerView
view_of parts spent = record { parts = parts_of parts; spent = spent }
