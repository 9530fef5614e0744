-- An instruction changes no byte that its written operands miss.
use Rattle.std.specs.Prelude.{◌≡◌, ℕ, Bool, List, slice_index}
use Rattle.std.specs.List.{AllByRecursion as Each}
use Rattle.lgx_num.specs.declared.place.Flags.{Flags}
use Rattle.lgx_rung.specs.declared.ins.Ins.{Ins}
use Rattle.lgx_rung.specs.declared.op.Op.TheVariants.{Ret}
use Rattle.spec_scan.specs.Fits.{OperandsFit}
use Rattle.spec_scan.specs.Instructions.{row}
use Rattle.spec_scan.specs.Parameters.{returns_wanted}
use Rattle.spec_scan.specs.Position.{Frame}
use Rattle.spec_beside.specs.Misses.{PlaceMisses, WritesBeside}

-- Of every instruction. A RET stores at the returns that its frame wants, and these are to miss the byte too.
abbrev pub RowsWriteBeside : Type 0
RowsWriteBeside =
    (i : Ins) (on : Bool) (now : ℕ) (first : Bool) (frames : List Frame) (flags : Flags) (image : List ℕ) (b : ℕ)
    → OperandsFit i.op i.args → WritesBeside b i → (i.op ≡ Ret → Each (PlaceMisses b) (returns_wanted frames))
    → slice_index (row i.op i.args on now first frames flags image).image b ≡ slice_index image b
