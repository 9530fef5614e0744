-- A prescan of an instruction changes no byte that its written operands miss.
use Rattle.std.specs.Prelude.{fold}
use Rattle.std.specs.List.{AllByRecursion as Each}
use Rattle.std.proofs.Common.{◌≡◌, ℕ, ◌+◌, true, false, List, [], ◌∷◌, ℤ, pos, Option, Some, None, refl, ◌∙◌, arith}
use Rattle.spec_base.specs.declared.limits.TheConstants.{TIMER_BYTES, COUNTER_BYTES}
use Rattle.lgx_rung.specs.declared.ins.Ins.{Ins}
use Rattle.lgx_rung.specs.declared.op.Op.{Op}
use Rattle.lgx_rung.specs.declared.op.Op.TheVariants.{Ote, Ons, Osr, Osf, Ton, Rto, Tof, Ctu, Ctd}
use Rattle.lgx_rung.specs.OperandTable.{fixed_kinds, further, NoMore}
use Rattle.spec_scan.specs.declared.bound.Arg.{Arg}
use Rattle.spec_scan.specs.Arguments.{arg, bind, byte_of, put_bit}
use Rattle.spec_scan.specs.Fits.{ArgsFit, OperandsFit}
use Rattle.spec_scan.specs.Prescan.{prescan_bound, prescan_ins, prescan_one, timer_bits_off}
use Rattle.spec_scan.specs.StatusWords.{cd_bit, cu_bit, dn_bit, en_bit, pre, put_acc, tt_bit}
use Rattle.spec_scan.proofs.KeptKinds.{args_fit}
use Rattle.spec_beside.specs.Misses.{IsBeside, WritesBeside}
use Rattle.spec_beside.proofs.Beside.{ArgsMissFrom, args_miss}
use Rattle.spec_beside.proofs.Rows.{bit_stays, counter_beside, timer_beside}
use Rattle.spec_beside.proofs.Words.{Same, dint_same, status_same}

module _ (at b : ℕ) (beside : IsBeside at (at + TIMER_BYTES) b) where
  bits_off : (image : List ℕ) → Same b (timer_bits_off at image) image
  bits_off image =
      status_same at TIMER_BYTES b beside en_bit false _ (omega arith) (omega arith)
      ∙ (status_same at TIMER_BYTES b beside tt_bit false _ (omega arith) (omega arith) ∙ status_same at TIMER_BYTES b beside dn_bit false image (omega arith) (omega arith))

  with_acc : (v : ℤ) (image : List ℕ) → Same b (put_acc at v (timer_bits_off at image)) image
  with_acc v image = dint_same at TIMER_BYTES b beside 8 v (timer_bits_off at image) (omega arith) ∙ bits_off image

one_same : (op : Op) (args : List Arg) (image : List ℕ) (b : ℕ) → ArgsFit op args → (further op ≡ NoMore → ArgsMissFrom b 0 (fixed_kinds op) args) → Same b (prescan_one op args image) image
one_same Ote args image b fit h = bit_stays (arg args 0) false image b fit.0 (h refl).0
one_same Ons args image b fit h = bit_stays (arg args 0) true image b fit.0 (h refl).0
one_same Osr args image b fit h =
    bit_stays (arg args 1) false (put_bit image (arg args 0) true) b fit.1.0 (h refl).1.0 ∙ bit_stays (arg args 0) true image b fit.0 (h refl).0
one_same Osf args image b fit h =
    bit_stays (arg args 1) false (put_bit image (arg args 0) false) b fit.1.0 (h refl).1.0 ∙ bit_stays (arg args 0) false image b fit.0 (h refl).0
one_same Ton args image b fit h = with_acc (byte_of (arg args 0)) b (timer_beside b (arg args 0) fit.0 (h refl).0) (pos 0) image
one_same Tof args image b fit h =
    with_acc (byte_of (arg args 0)) b (timer_beside b (arg args 0) fit.0 (h refl).0) (pre image (byte_of (arg args 0))) image
one_same Rto args image b fit h = bits_off (byte_of (arg args 0)) b (timer_beside b (arg args 0) fit.0 (h refl).0) image
one_same Ctu args image b fit h =
    status_same (byte_of (arg args 0)) COUNTER_BYTES b (counter_beside b (arg args 0) fit.0 (h refl).0) cu_bit true image (omega arith) (omega arith)
one_same Ctd args image b fit h =
    status_same (byte_of (arg args 0)) COUNTER_BYTES b (counter_beside b (arg args 0) fit.0 (h refl).0) cd_bit true image (omega arith) (omega arith)
one_same _ args image b fit h = refl

-- an instruction whose operands fit, and that writes beside byte b
pub record IsBesideOf (b : ℕ) (i : Ins) : Type 0 where
  pub fit : OperandsFit i.op i.args
  pub written : WritesBeside b i

bound_same : (i : Ins) (image : List ℕ) (b : ℕ) → IsBesideOf b i → (o : Option (List Arg)) → bind image i.args ≡ o → Same b (prescan_bound i.op image o) image
bound_same i image b h None found = refl
bound_same i image b h (Some args) found = one_same i.op args image b (args_fit image i.args args i.op found h.fit) (λ no_more. args_miss image i args b no_more h.fit found h.written)

pub all_same : (is : List Ins) (image : List ℕ) (b : ℕ) → Each (IsBesideOf b) is → Same b (fold prescan_ins image is) image
all_same [] image b h = refl
all_same (i ∷ is) image b h = all_same is (prescan_ins image i) b h.1 ∙ bound_same i image b h.0 (bind image i.args) refl
