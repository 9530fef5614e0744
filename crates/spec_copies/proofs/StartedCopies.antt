-- A copy that an instruction starts lies in the image, and one of CPS fills nothing.
use Rattle.std.proofs.Common.{◌≡◌, ℕ, zero, suc, ◌+◌, ◌-◌, ◌*◌, ◌<◌, ◌≤◌, Bool, true, false, List, length, ℤ, Option, Some, None, refl, sym, subst, arith}
use Rattle.std.specs.Prelude.{⊤, nat_eq}
use Rattle.std.proofs.lemmas.Bool.{cond_both, eqb-false}
use Rattle.std.proofs.Math.Nat.{suc-mul, div-le_self, min-le_left, min-le_right}
use Rattle.spec_base.specs.declared.limits.TheConstants.{MAX_IMAGE_BYTES}
use Rattle.lgx_num.specs.declared.place.Flags.{Flags}
use Rattle.lgx_rung.specs.declared.ins.Ins.{Ins}
use Rattle.lgx_rung.specs.declared.op.Op.{Op}
use Rattle.lgx_rung.specs.declared.op.Op.TheVariants.{Fll}
use Rattle.spec_scan.specs.ArgBounds.{ArgsInBounds}
use Rattle.spec_scan.proofs.BoundKinds.{bound_lie}
use Rattle.spec_scan.specs.CopyBounds.{SourceInBounds, CopyInBounds, BlocksInBounds}
use Rattle.spec_scan.proofs.CopyBounds.{copy_lies}
use Rattle.spec_scan.specs.declared.bound.Arg.{Arg}
use Rattle.spec_scan.specs.declared.bound.Arg.TheVariants.{Block}
use Rattle.spec_scan.specs.declared.bound.Copying.{Copying}
use Rattle.spec_scan.specs.Arguments.{arg, size_of, room_of, value_of}
use Rattle.spec_scan.specs.Copies.{positive, elements_in, asked, elements, copy_of, start_copy, is_sync, fill_of, after_element}
use Rattle.spec_scan.specs.Executable.{ArgEndsIn, ArgsEndIn, IsExecutable}
use Rattle.spec_scan.specs.Instructions.{Control, StartCopy, row}
use Rattle.spec_scan.specs.Position.{Frame}
use Rattle.spec_scan.proofs.KeptKinds.{args_fit, args_end}
use Rattle.spec_scan.proofs.RowControls.{IsOther, row_asks}
use Rattle.spec_copies.specs.Standing.{IsCopyIn}

-- ---- one element less

pub element_less : (len : ℕ) (c : Copying) → IsCopyIn len c → 1 < c.left → IsCopyIn len (after_element c)
element_less len c h more = record { some = omega arith; few = (let f = h.few in omega arith); lies = go c.left c.fill more h.lies.target h.lies.source; plain = h.plain }
  where
    after : ℕ → Option ℤ → Copying
    after left fill = record c { source = c.source + c.size; target = c.target + c.size; left = left - 1; fill = fill }

    go : (left : ℕ) (fill : Option ℤ) → 1 < left → c.target + left * c.size ≤ len → SourceInBounds fill (record c { left = left; fill = fill }) len → CopyInBounds (after left fill) len
    go zero fill l t s = absurd (omega arith)
    go (suc n) None l t s =
        let e : suc n * c.size ≡ n * c.size + c.size = suc-mul n c.size in
        let k : suc n - 1 ≡ n = omega arith in
        subst (λ (i : ℕ). CopyInBounds (record c { source = c.source + c.size; target = c.target + c.size; left = i; fill = None }) len) (sym k) (record { target = omega arith; source = omega arith })
    go (suc n) (Some v) l t s =
        let e : suc n * c.size ≡ n * c.size + c.size = suc-mul n c.size in
        let k : suc n - 1 ≡ n = omega arith in
        let b = s.1 in
        subst (λ (i : ℕ). CopyInBounds (record c { source = c.source + c.size; target = c.target + c.size; left = i; fill = Some v }) len) (sym k) (record { target = omega arith; source = (s.0, omega arith) })

-- ---- what an instruction starts

abbrev pub StartsIn : ℕ → Control → Type 0
StartsIn len (StartCopy c) = IsCopyIn len c
StartsIn len _ = ⊤

sync_plain : (op : Op) (args : List Arg) (image : List ℕ) → is_sync op ≡ true → fill_of op args image ≡ None
sync_plain Fll args image e = absurd (cc e)
sync_plain _ args image e = refl

-- a tag that ends in the image has room for no more bytes than the image has
few_room : (a : Arg) (len : ℕ) → ArgEndsIn len a → room_of a ≤ len
few_room (Block at size stop) len h = omega arith
few_room _ len h = omega arith

few_asked : (args : List Arg) (image : List ℕ) (len : ℕ) → ArgsEndIn len args → asked args image ≤ len
few_asked args image len ends =
    let target = arg args 1 in
    let least = min-le_right (positive (value_of image (arg args 2))) (elements_in args target) in
    let whole = div-le_self (room_of target) (size_of target) in
    let bytes = few_room target len (ends 1) in
    omega arith

few_elements : (op : Op) (args : List Arg) (image : List ℕ) (len : ℕ) → ArgsEndIn len args → elements op args image ≤ len
few_elements Fll args image len ends = few_asked args image len ends
few_elements _ args image len ends =
    let least = min-le_left (asked args image) (elements_in args (arg args 0)) in
    let few = few_asked args image len ends in
    omega arith

other_starts : (len : ℕ) (d : Control) → IsOther d → StartsIn len d
other_starts len (StartCopy c) h = absurd h
other_starts len _ h = tt

-- a copy of these operands
copy_starts : (image : List ℕ) (op : Op) (bound : List Arg) → length image ≤ MAX_IMAGE_BYTES → ArgsInBounds bound (length image) → BlocksInBounds op bound (length image) → (c : Copying) → start_copy op bound image ≡ Some c → IsCopyIn (length image) c
copy_starts image op bound few lie blocks =
    let n = elements op bound image in
    let c = copy_of op bound image n in
    cond_both (nat_eq n 0) None (Some c) (λ (o : Option Copying). (x : Copying) → o ≡ Some x → IsCopyIn (length image) x) (λ e x is. absurd (cc is))
    (λ e x is.
    let c_is : IsCopyIn (length image) c = record {
      some = (let ne : n ≡ 0 → ⊥ = eqb-false n 0 e in omega arith);
      few = few_elements op bound image (length image) blocks.ends;
      lies = copy_lies op bound image c refl few lie blocks;
      plain = sync_plain op bound image;
    } in
    subst (IsCopyIn (length image)) (cc is) c_is)

pub instruction_starts : (i : Ins) (on : Bool) (now : ℕ) (first : Bool) (frames : List Frame) (flags : Flags) (image : List ℕ) → length image ≤ MAX_IMAGE_BYTES → IsExecutable (length image) i → StartsIn (length image) (row i.op i.args on now first frames flags image).control
instruction_starts i on now first frames flags image few can =
    row_asks (StartsIn (length image)) (other_starts (length image)) i.args on now first frames flags image i.op (λ bound found. record {
      call = λ is. tt;
      trigger = λ is. tt;
      copy = λ is. copy_starts image i.op bound few (bound_lie image i.args bound found can.lie) (record { fit = args_fit image i.args bound i.op found can.fit; ends = args_end image i.args bound (length image) found can.ends });
    })
