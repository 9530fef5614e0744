-- A row reads nothing but the places of the operands that its instruction reads, and those of the subscripts: from two images
-- that differ at other bytes alone it makes the same, but at these bytes.
use Rattle.std.specs.Prelude.{◌≡◌, ℕ, ◌<◌, ◌≤◌, Bool, List, length, slice_index}
use Rattle.std.specs.List.{AllByRecursion as Each}
use Rattle.lgx_num.specs.declared.place.Flags.{Flags}
use Rattle.lgx_num.specs.declared.place.Index.{Index}
use Rattle.lgx_num.specs.declared.place.Operand.{Operand}
use Rattle.lgx_num.specs.declared.place.Operand.TheVariants as operand
use Rattle.lgx_num.specs.declared.place.Place.{Place}
use Rattle.lgx_rung.specs.declared.ins.Ins.{Ins}
use Rattle.spec_scan.specs.Fits.{OperandsFit}
use Rattle.spec_scan.specs.Instructions.{Row, row}
use Rattle.spec_scan.specs.Position.{Frame}
use Rattle.spec_uses.specs.Written.{read}
use Rattle.spec_beside.specs.Misses.{Misses, PlaceMisses}

-- two images of one length that are the same but at such bytes
pub record AreSameBut (T : ℕ → Type 0) (x y : List ℕ) : Type 0 where
  pub lengths : length x ≡ length y
  pub bytes : (b : ℕ) → (T b → ⊥) → slice_index x b ≡ slice_index y b

-- two rows that are the same but for such images
pub record MakeSameBut (T : ℕ → Type 0) (r q : Row) : Type 0 where
  pub on : r.on ≡ q.on
  pub flags : r.flags ≡ q.flags
  pub control : r.control ≡ q.control
  pub image : AreSameBut T r.image q.image

module _ (T : ℕ → Type 0) where
  -- a place, and wherever its subscripts lead an operand, has nothing to do with the bytes
  abbrev pub PlaceSpares : Place → Type 0
  PlaceSpares p = (b : ℕ) → T b → PlaceMisses b p

  abbrev pub OperandSpares : Operand → Type 0
  OperandSpares o = (b : ℕ) → T b → Misses b o

  -- each subscript of a path, and of an operand's
  abbrev pub StepsSpare : List Index → Type 0
  StepsSpare steps = Each (λ (i : Index). PlaceSpares i.of) steps

  abbrev pub SubscriptsSpare : Operand → Type 0
  SubscriptsSpare (operand.Cell p) = StepsSpare p.steps
  SubscriptsSpare (operand.Timer p) = StepsSpare p.steps
  SubscriptsSpare (operand.Counter p) = StepsSpare p.steps
  SubscriptsSpare (operand.Block b) = StepsSpare b.path.steps
  SubscriptsSpare _ = Unit {0}

-- of a tag's bytes, which are the numbers from one up to before another
abbrev pub IsFrom : (start end : ℕ) → ℕ → Type 0
IsFrom start end b = (start ≤ b) × (b < end)

abbrev pub RowsReadReaders : Type 0
RowsReadReaders =
    (start end : ℕ) (i : Ins) (on : Bool) (now : ℕ) (first : Bool) (frames : List Frame) (flags : Flags) (x y : List ℕ)
    → OperandsFit i.op i.args → Each (OperandSpares (IsFrom start end)) (read i) → Each (SubscriptsSpare (IsFrom start end)) i.args
    → AreSameBut (IsFrom start end) x y
    → MakeSameBut (IsFrom start end) (row i.op i.args on now first frames flags x) (row i.op i.args on now first frames flags y)
