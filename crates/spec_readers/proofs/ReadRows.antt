-- Rows of every instruction.
use Rattle.std.specs.Prelude.{◌||◌, take, drop}
use Rattle.std.specs.List.{AllByRecursion as Each}
use Rattle.std.proofs.Common.{◌≡◌, ℕ, Bool, true, false, if◌then◌else◌, List, map, Option, Some, None, refl, sym, subst}
use Rattle.spec_tables.specs.declared.fault.TheConstants.{BAD_SUBSCRIPT}
use Rattle.lgx_num.specs.declared.place.Flags.{Flags}
use Rattle.lgx_num.specs.declared.place.Operand.{Operand}
use Rattle.lgx_rung.specs.declared.ins.Ins.{Ins}
use Rattle.lgx_rung.specs.declared.op.Op.{Op}
use Rattle.lgx_rung.specs.declared.op.Op.TheVariants.{Jsr, Sbr, Ret}
use Rattle.lgx_rung.specs.declared.operands.Family.{Family}
use Rattle.lgx_rung.specs.OperandTable.{NoMore, further, family_of}
use Rattle.spec_scan.specs.declared.bound.Arg.{Arg}
use Rattle.spec_scan.specs.Arguments.{bind, value_of}
use Rattle.spec_scan.specs.Fits.{OperandsFit}
use Rattle.spec_scan.specs.Instructions.{Nothing, MajorFault, acts_when_false, pass_on, row, with_bound}
use Rattle.spec_scan.specs.Parameters.{inputs_of, input_count}
use Rattle.spec_scan.specs.Position.{Frame}
use Rattle.spec_scan.proofs.KeptKinds.{args_fit}
use Rattle.spec_uses.specs.Written.{read}
use Rattle.spec_readers.specs.Reads.{AreSameBut, MakeSameBut, OperandSpares, SubscriptsSpare, IsFrom, RowsReadReaders}
use Rattle.spec_readers.proofs.Bound.{bind_same, args_spare, returned_spare, handed_spare}
use Rattle.spec_readers.proofs.Rows.{IsFixed, passes, values_same, family_same}

module _ (T : ℕ → Type 0) (args : List Operand) (on : Bool) (now : ℕ) (first : Bool) (frames : List Frame) (flags : Flags) (x y : List ℕ) (h : AreSameBut T x y) where
  no_more : (f : Family) (op : Op) → family_of op ≡ f → IsFixed T args on now first frames flags x y h f → further op ≡ NoMore
  no_more f Jsr is fixed = absurd (subst (IsFixed T args on now first frames flags x y h) (sym is) fixed)
  no_more f Sbr is fixed = absurd (subst (IsFixed T args on now first frames flags x y h) (sym is) fixed)
  no_more f Ret is fixed = absurd (subst (IsFixed T args on now first frames flags x y h) (sym is) fixed)
  no_more f _ is fixed = refl

  module _ (subscripts : Each (SubscriptsSpare T) args) where
    inputs : (op : Op) (bound : List Arg) → OperandsFit op args → Each (OperandSpares T) (read (record { op = op; args = args })) → bind x args ≡ Some bound → op ≡ Jsr → inputs_of bound x ≡ inputs_of bound y
    inputs Jsr bound fit s found is = values_same T args on now first frames flags x y h (take (input_count bound) (drop 2 bound)) (handed_spare T x args bound fit s found)
    inputs _ bound fit s found is = absurd (cc is)

    returned : (op : Op) (bound : List Arg) → OperandsFit op args → Each (OperandSpares T) (read (record { op = op; args = args })) → bind x args ≡ Some bound → op ≡ Ret → map (value_of x) bound ≡ map (value_of y) bound
    returned Ret bound fit s found is = values_same T args on now first frames flags x y h bound (returned_spare T x args bound fit s found)
    returned _ bound fit s found is = absurd (cc is)

    by_bound : (op : Op) (o : Option (List Arg)) → OperandsFit op args → Each (OperandSpares T) (read (record { op = op; args = args })) → bind x args ≡ o → MakeSameBut T (with_bound args on now first frames flags x op o) (with_bound args on now first frames flags y op o)
    by_bound op (Some bound) fit s found =
        family_same T args on now first frames flags x y h (family_of op) op bound refl (args_fit x args bound op found fit)
        (λ fixed. args_spare T x (record { op = op; args = args }) bound (no_more (family_of op) op refl fixed) fit found s)
        (record { inputs = inputs op bound fit s found; returned = returned op bound fit s found })
    by_bound op None fit s found = passes T args on now first frames flags x y h (MajorFault BAD_SUBSCRIPT)

    by_condition : (op : Op) (acts : Bool) → OperandsFit op args → Each (OperandSpares T) (read (record { op = op; args = args })) → MakeSameBut T (if acts then with_bound args on now first frames flags x op (bind x args) else pass_on args on now first frames flags x Nothing) (if acts then with_bound args on now first frames flags y op (bind y args) else pass_on args on now first frames flags y Nothing)
    by_condition op true fit s =
        subst (λ (o : Option (List Arg)). MakeSameBut T (with_bound args on now first frames flags x op (bind x args)) (with_bound args on now first frames flags y op o)) (bind_same T x y h args subscripts) (by_bound op (bind x args) fit s refl)
    by_condition op false fit s = passes T args on now first frames flags x y h Nothing

-- whatever the bytes are that don't count
pub row_reads_readers : (T : ℕ → Type 0) (i : Ins) (on : Bool) (now : ℕ) (first : Bool) (frames : List Frame) (flags : Flags) (x y : List ℕ) → OperandsFit i.op i.args → Each (OperandSpares T) (read i) → Each (SubscriptsSpare T) i.args → AreSameBut T x y → MakeSameBut T (row i.op i.args on now first frames flags x) (row i.op i.args on now first frames flags y)
row_reads_readers T i on now first frames flags x y fit s subscripts h =
    by_condition T i.args on now first frames flags x y h subscripts i.op (on || acts_when_false i.op) fit s

pub rows_read_readers : RowsReadReaders
rows_read_readers start end i on now first frames flags x y fit s subscripts h = row_reads_readers (IsFrom start end) i on now first frames flags x y fit s subscripts h
