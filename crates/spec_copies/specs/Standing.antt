-- Where a scan is, in every state that a journal leads to: in its own rungs, with what it copies in the image.
use Rattle.std.specs.Prelude.{◌≡◌, ℕ, ◌<◌, ◌≤◌, true, List, length, Option, Some, None}
use Rattle.spec_scan.specs.CopyBounds.{CopyInBounds}
use Rattle.spec_scan.specs.declared.bound.Copying.{Copying}
use Rattle.spec_scan.specs.Executable.{IsExecutable}
use Rattle.spec_scan.specs.Position.{Position}
use Rattle.spec_scan.specs.Returns.{ReturnsInBounds}
use Rattle.spec_machine.specs.declared.event.Event.{Event}
use Rattle.spec_machine.specs.Machine.{run}
use Rattle.spec_machine.specs.Project.{Project}
use Rattle.spec_machine.specs.State.{Scan, progress_of}
use Rattle.spec_machine.specs.ValidProject.{IsValidProject}
use Rattle.spec_reach.specs.Positions.{PositionHas}

-- a copy in progress has elements left, no more than an image has bytes, and they lie in it; a synchronous one fills nothing
pub record IsCopyIn (len : ℕ) (c : Copying) : Type 0 where
  pub some : 0 < c.left
  pub few : c.left ≤ len
  pub lies : CopyInBounds c len
  pub plain : c.sync ≡ true → c.fill ≡ None

abbrev pub CopiesIn : ℕ → Option Copying → Type 0
CopiesIn len None = Unit {0}
CopiesIn len (Some c) = IsCopyIn len c

-- every instruction to come can be executed over an image of `len` bytes, the places of returns lie in it, and so does the copy in
-- progress
pub record StandsIn (len : ℕ) (position : Position) : Type 0 where
  pub instructions : PositionHas (IsExecutable len) position
  pub returns : ReturnsInBounds len position
  pub copy : CopiesIn len position.copy

abbrev pub ScansStandIn : Type 0
ScansStandIn = (p : Project) (journal : List Event) (t : ℕ) (scan : Scan) → IsValidProject p → (progress_of (run p journal) t).scan ≡ Some scan → StandsIn (length p.image) scan.position
