-- When copies lie in an image: what each step of one reads and writes is there.
use Rattle.std.specs.Prelude.{ℕ, ◌+◌, ◌*◌, ◌^◌, ◌<◌, ◌≤◌, List, ℤ, Option, Some, None}
use Rattle.lgx_rung.specs.declared.op.Op.{Op}
use Rattle.spec_scan.specs.declared.bound.Arg.{Arg}
use Rattle.spec_scan.specs.declared.bound.Copying.{Copying}
use Rattle.spec_scan.specs.Executable.{ArgsEndIn}
use Rattle.spec_scan.specs.Fits.{IsFillSize, ArgsFit}

-- The elements left of the source lie in an image of this many bytes. A fill reads none of them, but where they would
-- end is still a number of 32 bits.
abbrev pub SourceInBounds : Option ℤ → Copying → ℕ → Type 0
SourceInBounds None c len = c.source + c.left * c.size ≤ len
SourceInBounds (Some v) c len = IsFillSize c.size × (c.source + c.left * c.size < 2 ^ 32)

-- the elements left of the target and of the source lie in an image of this many bytes
pub record CopyInBounds (c : Copying) (len : ℕ) : Type 0 where
  pub target : c.target + c.left * c.size ≤ len
  pub source : SourceInBounds c.fill c len

-- the operands are such as the instruction wants them, and their tags end in an image of this many bytes
pub record BlocksInBounds (op : Op) (args : List Arg) (len : ℕ) : Type 0 where
  pub fit : ArgsFit op args
  pub ends : ArgsEndIn len args
