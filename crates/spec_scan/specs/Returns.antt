-- Where the returns of a position lie, and that a step keeps them there.
use Rattle.std.specs.Prelude.{ℕ, Bool, List}
use Rattle.std.specs.List.{AllByRecursion as Each}
use Rattle.lgx_num.specs.declared.place.Flags.{Flags}
use Rattle.lgx_num.specs.declared.place.Place.{Place}
use Rattle.lgx_num.specs.Image.{InBounds}
use Rattle.spec_scan.specs.Position.{ProgramRungs, Frame, Position}
use Rattle.spec_scan.specs.Next.{NextHas}
use Rattle.spec_scan.specs.Executable.{IsExecutable}
use Rattle.spec_scan.specs.Scan.{advance}

-- the places of the returns that the position's frames want lie in an image of `len` bytes, each on a byte
abbrev pub ReturnsInBounds : ℕ → Position → Type 0
ReturnsInBounds len position = Each (λ (f : Frame). Each (λ (p : Place). InBounds p len) f.returns) position.frames

-- the next instruction of the innermost frame, if there is one, can be executed over an image of `len` bytes
abbrev pub NextIsExecutable : ℕ → List Frame → Type 0
NextIsExecutable len = NextHas (IsExecutable len)

-- a step keeps the places of returns in an image of `len` bytes
abbrev pub StepsKeepReturns : Type 0
StepsKeepReturns =
    (program : ProgramRungs) (position : Position) (image : List ℕ) (now : ℕ) (first : Bool) (flags : Flags) (len : ℕ) →
    NextIsExecutable len position.frames → ReturnsInBounds len position →
    ReturnsInBounds len (advance program position image now first flags).position
