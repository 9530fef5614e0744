-- One step of a scan changes no byte beside which its instruction, or its copy in progress, writes.
use Rattle.std.specs.Prelude.{◌≡◌, ℕ, Bool, List, Option, Some, None, slice_index}
use Rattle.std.specs.List.{AllByRecursion as Each}
use Rattle.lgx_num.specs.declared.place.Flags.{Flags}
use Rattle.lgx_rung.specs.declared.ins.Ins.{Ins}
use Rattle.lgx_rung.specs.declared.op.Op.TheVariants.{Ret}
use Rattle.spec_scan.specs.declared.bound.Copying.{Copying}
use Rattle.spec_scan.specs.Fits.{OperandsFit}
use Rattle.spec_scan.specs.Next.{NextHas}
use Rattle.spec_scan.specs.Parameters.{returns_wanted}
use Rattle.spec_scan.specs.Position.{ProgramRungs, Frame, Position}
use Rattle.spec_scan.specs.Scan.{advance}
use Rattle.spec_beside.specs.Copies.{CopyBeside}
use Rattle.spec_beside.specs.Misses.{PlaceMisses, WritesBeside}

-- an instruction that these frames execute writes beside byte b
pub record ExecutesBeside (b : ℕ) (frames : List Frame) (i : Ins) : Type 0 where
  pub fit : OperandsFit i.op i.args
  pub written : WritesBeside b i
  pub returns : i.op ≡ Ret → Each (PlaceMisses b) (returns_wanted frames)

-- what a scan at this position does next: an element of the copy in progress, or else the next instruction
abbrev pub GoesBeside : ℕ → List Frame → Option Copying → Type 0
GoesBeside b frames (Some c) = CopyBeside b c
GoesBeside b frames None = NextHas (ExecutesBeside b frames) frames

-- the byte stays as it was
abbrev pub StepsWriteBeside : Type 0
StepsWriteBeside =
    (program : ProgramRungs) (position : Position) (image : List ℕ) (now : ℕ) (first : Bool) (flags : Flags) (b : ℕ)
    → GoesBeside b position.frames position.copy
    → slice_index (advance program position image now first flags).image b ≡ slice_index image b

-- of a copy, if there is one
abbrev pub IfCopies : (Copying → Type 0) → Option Copying → Type 0
IfCopies P (Some c) = P c
IfCopies P None = Unit {0}

-- and a copy that is in progress afterwards writes beside the byte
abbrev pub StepsCopyBeside : Type 0
StepsCopyBeside =
    (program : ProgramRungs) (position : Position) (image : List ℕ) (now : ℕ) (first : Bool) (flags : Flags) (b : ℕ)
    → GoesBeside b position.frames position.copy
    → IfCopies (CopyBeside b) (advance program position image now first flags).position.copy
