-- The instructions of a program's text, by routine, and the places at which the calls of a routine want returns.
use Rattle.std.specs.Prelude.{◌≡◌, ℕ, Bool, List, slice_get, Some}
use Rattle.lgx_num.specs.declared.place.Flags.{Flags}
use Rattle.lgx_num.specs.declared.place.Place.{Place}
use Rattle.lgx_rung.specs.declared.ins.Ins.{Ins}
use Rattle.spec_scan.specs.Fits.{OperandsFit}
use Rattle.spec_scan.specs.Position.{Position, first_position}
use Rattle.spec_scan.specs.Scan.{advance}
use Rattle.spec_machine.specs.Edits.{book_of, selected}
use Rattle.spec_machine.specs.Project.{Project, ProgramText}
use Rattle.spec_machine.specs.ValidProject.{IsValidProject}
use Rattle.spec_uses.specs.Uses.{Site, sites_of_program}
use Rattle.spec_beside.specs.Frames.{CallsReturn, FramesStand, RoutinesHave}
use Rattle.spec_beside.specs.Misses.{PlaceMisses}
use Rattle.spec_beside.specs.Sites.{CallsBeside}

-- an instruction that is in routine r of program number g, and has operands such as its mnemonic wants
pub record StandsIn (g : ℕ) (program : ProgramText) (r : ℕ) (i : Ins) : Type 0 where
  pub site : Site
  pub number : ℕ
  pub is : slice_get (sites_of_program (g, program)) number ≡ Some site
  pub routine : site.at.routine ≡ r
  pub ins : site.ins ≡ i
  pub fit : OperandsFit i.op i.args

-- a place that misses each byte which all calls of routine r write beside: those of their returns do
abbrev pub IsReturnTo : ProgramText → ℕ → Place → Type 0
IsReturnTo program r place = (b : ℕ) → CallsBeside b program r → PlaceMisses b place

-- ---- in a valid project's programs

-- each routine's instructions are in it
abbrev pub RoutinesStand : Type 0
RoutinesStand =
    (p : Project) (g : ℕ) (program : ProgramText) → IsValidProject p → slice_get p.programs g ≡ Some program
    → RoutinesHave (StandsIn g program) (IsReturnTo program) (selected (book_of program))

-- what a call wants returned is such a place
abbrev pub CallsStand : Type 0
CallsStand =
    (p : Project) (g : ℕ) (program : ProgramText) → IsValidProject p → slice_get p.programs g ≡ Some program
    → CallsReturn (StandsIn g program) (IsReturnTo program)

-- each frame of a scan is in its own routine, and wants returns at such places
abbrev pub ScanStands : ℕ → ProgramText → Position → Type 0
ScanStands g program position = FramesStand (StandsIn g program) (IsReturnTo program) position

-- it is so when a scan begins
abbrev pub FramesBegin : Type 0
FramesBegin =
    (p : Project) (g : ℕ) (program : ProgramText) → IsValidProject p → slice_get p.programs g ≡ Some program
    → ScanStands g program (first_position (selected (book_of program)))

-- and after each step
abbrev pub FramesStay : Type 0
FramesStay =
    (p : Project) (g : ℕ) (program : ProgramText) (position : Position) (image : List ℕ) (now : ℕ) (first : Bool) (flags : Flags)
    → IsValidProject p → slice_get p.programs g ≡ Some program
    → ScanStands g program position → ScanStands g program (advance (selected (book_of program)) position image now first flags).position
