-- What holds of a scan in progress as long as no edit is accepted: it is of its program's own rungs, its frames stand in their
-- routines, and the copy in progress is one that the task's last instruction started.
use Rattle.std.proofs.Common.{◌≡◌, ℕ, Option, Some}
use Rattle.std.specs.Prelude.{slice_get}
use Rattle.lgx_rung.specs.declared.ins.Ins.{Ins}
use Rattle.spec_scan.specs.declared.bound.Copying.{Copying}
use Rattle.spec_scan.specs.Position.{Position}
use Rattle.spec_machine.specs.Edits.{book_of, selected}
use Rattle.spec_machine.specs.Project.{Project, ProgramText}
use Rattle.spec_machine.specs.State.{Scan}
use Rattle.spec_uses.specs.Uses.{Site, sites_of_program}
use Rattle.spec_beside.specs.Copies.{CopyBeside}
use Rattle.spec_beside.specs.Routines.{ScanStands}
use Rattle.spec_beside.specs.Sites.{SiteBeside}
use Rattle.spec_beside.specs.Steps.{IfCopies}

-- A copy was started by the instruction at one of the program's sites, which its task executed last; it misses each byte that the
-- site's instruction misses.
pub record CopyStands (n : ℕ) (text : ProgramText) (last : Option Ins) (c : Copying) : Type 0 where
  pub site : Site
  pub number : ℕ
  pub is : slice_get (sites_of_program (n, text)) number ≡ Some site
  pub executed : last ≡ Some site.ins
  pub beside : (b : ℕ) → SiteBeside b text site → CopyBeside b c

-- the frames stand in their routines, and so does the copy in progress, if there is one
pub record PositionStands (n : ℕ) (text : ProgramText) (last : Option Ins) (position : Position) : Type 0 where
  pub frames : ScanStands n text position
  pub copy : IfCopies (CopyStands n text last) position.copy

-- a scan of its program's own rungs
pub record IsOwnScan (p : Project) (last : Option Ins) (scan : Scan) : Type 0 where
  pub text : ProgramText
  pub is : slice_get p.programs scan.program ≡ Some text
  pub rungs : scan.rungs ≡ selected (book_of text)
  pub position : PositionStands scan.program text last scan.position
