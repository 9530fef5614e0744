-- Where the frames of a scan are: each in the rungs of its own routine, and with returns that a call of this routine wants.
use Rattle.std.specs.Prelude.{◌≡◌, ℕ, Bool, List, Some}
use Rattle.std.specs.List.{AllByRecursion as Each}
use Rattle.lgx_num.specs.declared.place.Flags.{Flags}
use Rattle.lgx_num.specs.declared.place.Place.{Place}
use Rattle.lgx_rung.specs.declared.ins.Ins.{Ins}
use Rattle.lgx_rung.specs.declared.op.Op.TheVariants.{Jsr}
use Rattle.spec_scan.specs.declared.bound.Arg.{Arg}
use Rattle.spec_scan.specs.Arguments.{bind}
use Rattle.spec_scan.specs.Instructions.{target}
use Rattle.spec_scan.specs.Parameters.{returns_of}
use Rattle.spec_scan.specs.Position.{ProgramRungs, Frame, Position, routine_rungs}
use Rattle.spec_scan.specs.Scan.{advance}
use Rattle.spec_reach.specs.Positions.{RungsHave, CursorHas}

-- of a routine by its number: what holds of its instructions, and of the places that its calls want returns at
module _ (Of : ℕ → Ins → Type 0) (To : ℕ → Place → Type 0) where
  -- a frame's instructions to come are its routine's, and its returns are what a call of this routine wants
  pub record FrameStands (f : Frame) : Type 0 where
    pub cursor : CursorHas (Of f.routine) f.cursor
    pub returns : Each (To f.routine) f.returns

  abbrev pub FramesStand : Position → Type 0
  FramesStand position = Each FrameStands position.frames

  -- it holds of each routine's instructions
  abbrev pub RoutinesHave : ProgramRungs → Type 0
  RoutinesHave program = (r : ℕ) → RungsHave (Of r) (routine_rungs program r)

  -- and of what a JSR of any routine wants returned
  abbrev pub CallsReturn : Type 0
  CallsReturn = (r : ℕ) (i : Ins) (image : List ℕ) (bound : List Arg) → Of r i → i.op ≡ Jsr → bind image i.args ≡ Some bound → Each (To (target i.args)) (returns_of bound)

-- A step keeps it, whatever these are. No contract can name so large a type: FramesStay (Routines) is what it says of a valid project.
abbrev pub StepsKeepFrames : Type 1
StepsKeepFrames =
    (Of : ℕ → Ins → Type 0) (To : ℕ → Place → Type 0) (program : ProgramRungs) (position : Position) (image : List ℕ) (now : ℕ) (first : Bool) (flags : Flags) →
    RoutinesHave Of To program → CallsReturn Of To → FramesStand Of To position → FramesStand Of To (advance program position image now first flags).position
