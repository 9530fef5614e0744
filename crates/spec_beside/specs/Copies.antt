-- A copy that an instruction starts writes beside every byte that the instruction's written operands miss.
use Rattle.std.specs.Prelude.{◌≡◌, ℕ, ◌+◌, ◌*◌, ◌<◌, Bool, List, slice_index}
use Rattle.lgx_num.specs.declared.place.Flags.{Flags}
use Rattle.lgx_rung.specs.declared.ins.Ins.{Ins}
use Rattle.spec_scan.specs.declared.bound.Copying.{Copying}
use Rattle.spec_scan.specs.Copies.{after_element, copy_element}
use Rattle.spec_scan.specs.Fits.{OperandsFit}
use Rattle.spec_scan.specs.Instructions.{StartCopy, row}
use Rattle.spec_scan.specs.Position.{Frame}
use Rattle.spec_beside.specs.Misses.{IsBeside, WritesBeside}

-- it has elements left, and b isn't among the bytes at which they will be written
pub record CopyBeside (b : ℕ) (c : Copying) : Type 0 where
  pub some : 0 < c.left
  pub target : IsBeside c.target (c.target + c.left * c.size) b

-- the copy that a COP, a CPS or a FLL starts
abbrev pub CopiesStartBeside : Type 0
CopiesStartBeside =
    (i : Ins) (on : Bool) (now : ℕ) (first : Bool) (frames : List Frame) (flags : Flags) (image : List ℕ) (b : ℕ) (c : Copying)
    → OperandsFit i.op i.args → WritesBeside b i → (row i.op i.args on now first frames flags image).control ≡ StartCopy c
    → CopyBeside b c

-- what is left of a copy after an element, as long as something is
abbrev pub CopiesGoOnBeside : Type 0
CopiesGoOnBeside = (c : Copying) (b : ℕ) → CopyBeside b c → 1 < c.left → CopyBeside b (after_element c)

-- an element changes no such byte
abbrev pub ElementsWriteBeside : Type 0
ElementsWriteBeside =
    (c : Copying) (image : List ℕ) (b : ℕ) → CopyBeside b c → slice_index (copy_element c image) b ≡ slice_index image b
