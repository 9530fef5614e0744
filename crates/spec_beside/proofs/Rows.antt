-- An instruction changes no byte that its written operands miss.
use Rattle.std.specs.Prelude.{⊤, not, ◌&&◌, map, nat_lt}
use Rattle.std.specs.List.{AllByRecursion as Each}
use Rattle.std.proofs.Common.{◌≡◌, ℕ, ◌+◌, ◌⊎◌, inl, inr, Bool, true, false, ◌||◌, if◌then◌else◌, List, [], ◌∷◌, ℤ, length, arith, get_or, Option, Some, None, refl, sym, subst, ◌∙◌}
use Rattle.std.proofs.lemmas.Bool.{cond_both}
use Rattle.spec_base.specs.declared.limits.TheConstants.{MAX_FRAMES, TIMER_BYTES, COUNTER_BYTES}
use Rattle.lgx_num.specs.declared.place.Flags.{Flags}
use Rattle.lgx_num.specs.declared.place.Operand.{Operand}
use Rattle.lgx_num.specs.declared.place.Place.{Place}
use Rattle.lgx_num.specs.Image.{write}
use Rattle.lgx_rung.specs.declared.op.Op.{Op}
use Rattle.lgx_rung.specs.declared.op.Op.TheVariants.{Add, Sub, Mul, Div, Mod, Neg, Abs, Mov, And, Or, Xor, Not, Mvm, Clr, Xic, Xio, Ote, Otl, Otu, Ons, Osr, Osf, Afi, Ton, Rto, Tof, Ctu, Ctd, Res, Jsr, Sbr, Ret}
use Rattle.lgx_rung.specs.declared.operands.Family.{Family}
use Rattle.lgx_rung.specs.declared.operands.Family.TheVariants.{Bit, Timer, Counter, Reset, Comparison, Arithmetic, Copy, ProgramControl}
use Rattle.lgx_rung.specs.OperandTable.{fixed_kinds, family_of, further, NoMore}
use Rattle.spec_scan.specs.declared.bound.Arg.{Arg}
use Rattle.spec_scan.specs.declared.bound.Arg.TheVariants as bound
use Rattle.spec_scan.specs.declared.bound.Copying.{Copying}
use Rattle.spec_scan.specs.Copies.{start_copy}
use Rattle.spec_scan.specs.Counters.{counter}
use Rattle.spec_scan.specs.Parameters.{inputs_handed, returns_wanted, store_all}
use Rattle.spec_scan.specs.StatusWords.{reset}
use Rattle.spec_scan.specs.Timers.{timer}
use Rattle.spec_scan.specs.Arguments.{arg, bind, bit_value, byte_of, place_of, put_bit, value_of}
use Rattle.spec_scan.specs.Bits.{bits}
use Rattle.spec_scan.specs.Arithmetic.{math, dest}
use Rattle.spec_scan.specs.Fits.{OperandsFit, ArgsFit, IsPlace, IsTimerPlace, IsCounterPlace}
use Rattle.spec_scan.specs.Instructions.{Control, Nothing, Return, Row, acts_when_false, call_row, copy_row, family_row, pass_on, program_control, store_row, timer_row, with_bound}
use Rattle.spec_scan.specs.Position.{Frame}
use Rattle.spec_scan.proofs.KeptKinds.{args_fit}
use Rattle.spec_beside.specs.Misses.{IsBeside, PlaceMisses, WritesBeside}
use Rattle.spec_beside.specs.Rows.{RowsWriteBeside}
use Rattle.spec_beside.proofs.Beside.{ArgMisses, ArgsMissFrom, write_beside, place_misses, args_miss}
use Rattle.spec_beside.proofs.Handed.{entry_misses}
use Rattle.spec_beside.proofs.Words.{SameSome, timer_same, counter_same, reset_same}

-- the image that a row leaves has this byte as it was
abbrev Stays : List ℕ → List ℕ → ℕ → Type 0
Stays after image b = get_or after b 0 ≡ get_or image b 0

-- numbers that are stored at places change no byte that all these places miss
store_keeps : (image : List ℕ) (places : List Place) (numbers : List ℤ) (b : ℕ) → Each (PlaceMisses b) places → Stays (store_all image places numbers) image b
store_keeps image [] numbers b h = refl
store_keeps image (p ∷ ps) [] b h = refl
store_keeps image (p ∷ ps) (v ∷ vs) b h = store_keeps (write image p v) ps vs b h.1 ∙ write_beside image p v b h.0

-- ---- bound operands: arithmetic stores at its destination alone

math_stays : (op : Op) (args : List Arg) (image : List ℕ) (b : ℕ) → IsPlace (arg args (dest op)) → ArgMisses b (arg args (dest op)) → Stays (math op args image).image image b
math_stays op args image b is h = write_beside image (place_of (arg args (dest op))) _ b (place_misses (arg args (dest op)) b is h)

pub bit_stays : (a : Arg) (on : Bool) (image : List ℕ) (b : ℕ) → IsPlace a → ArgMisses b a → Stays (put_bit image a on) image b
bit_stays a on image b is h = write_beside image (place_of a) _ b (place_misses a b is h)

-- a timer's and a counter's bytes
pub timer_beside : (b : ℕ) (a : Arg) → IsTimerPlace a → ArgMisses b a → IsBeside (byte_of a) (byte_of a + TIMER_BYTES) b
timer_beside b (bound.Timer at) is h = h
timer_beside b _ is h = absurd is

pub counter_beside : (b : ℕ) (a : Arg) → IsCounterPlace a → ArgMisses b a → IsBeside (byte_of a) (byte_of a + COUNTER_BYTES) b
counter_beside b (bound.Counter at) is h = h
counter_beside b _ is h = absurd is

module _ (args : List Operand) (on : Bool) (now : ℕ) (first : Bool) (frames : List Frame) (flags : Flags) (image : List ℕ) (b : ℕ) where
  -- an instruction of a family, with its operands bound, keeps a byte that those which it writes miss
  abbrev Keeps : Family → Op → Type 0
  Keeps f op = (bound : List Arg) → ArgsFit op bound → ArgsMissFrom b 0 (fixed_kinds op) bound → Stays (family_row args on now first frames flags image f op bound).image image b

  arithmetic_keeps : (op : Op) → family_of op ≡ Arithmetic → Keeps Arithmetic op
  arithmetic_keeps Add is bound fit h = math_stays Add bound image b fit.1.1.0 h.1.1.0
  arithmetic_keeps Sub is bound fit h = math_stays Sub bound image b fit.1.1.0 h.1.1.0
  arithmetic_keeps Mul is bound fit h = math_stays Mul bound image b fit.1.1.0 h.1.1.0
  arithmetic_keeps Div is bound fit h = math_stays Div bound image b fit.1.1.0 h.1.1.0
  arithmetic_keeps Mod is bound fit h = math_stays Mod bound image b fit.1.1.0 h.1.1.0
  arithmetic_keeps And is bound fit h = math_stays And bound image b fit.1.1.0 h.1.1.0
  arithmetic_keeps Or is bound fit h = math_stays Or bound image b fit.1.1.0 h.1.1.0
  arithmetic_keeps Xor is bound fit h = math_stays Xor bound image b fit.1.1.0 h.1.1.0
  arithmetic_keeps Mvm is bound fit h = math_stays Mvm bound image b fit.1.1.0 h.1.1.0
  arithmetic_keeps Neg is bound fit h = math_stays Neg bound image b fit.1.0 h.1.0
  arithmetic_keeps Abs is bound fit h = math_stays Abs bound image b fit.1.0 h.1.0
  arithmetic_keeps Mov is bound fit h = math_stays Mov bound image b fit.1.0 h.1.0
  arithmetic_keeps Not is bound fit h = math_stays Not bound image b fit.1.0 h.1.0
  arithmetic_keeps Clr is bound fit h = math_stays Clr bound image b fit.0 h.0
  arithmetic_keeps _ is bound fit h = absurd (cc is)

  -- the bit instructions put bits at the operands that they write
  if_stays : (c : Bool) (a : Arg) (v : Bool) → IsPlace a → ArgMisses b a → Stays (if c then put_bit image a v else image) image b
  if_stays true a v is h = bit_stays a v image b is h
  if_stays false a v is h = refl

  bits_keep : (op : Op) → family_of op ≡ Bit → Keeps Bit op
  bits_keep Xic is bound fit h = refl
  bits_keep Xio is bound fit h = refl
  bits_keep Ote is bound fit h = bit_stays (arg bound 0) on image b fit.0 h.0
  bits_keep Otl is bound fit h = if_stays on (arg bound 0) true fit.0 h.0
  bits_keep Otu is bound fit h = if_stays on (arg bound 0) false fit.0 h.0
  bits_keep Ons is bound fit h = bit_stays (arg bound 0) on image b fit.0 h.0
  bits_keep Osr is bound fit h =
      let v = on && not (bit_value first flags image (arg bound 0)) in
      bit_stays (arg bound 0) on (put_bit image (arg bound 1) v) b fit.0 h.0 ∙ bit_stays (arg bound 1) v image b fit.1.0 h.1.0
  bits_keep Osf is bound fit h = by_condition on
    where
      by_condition : (c : Bool) → Stays (bits Osf bound c first flags image).image image b
      by_condition true = bit_stays (arg bound 1) false (put_bit image (arg bound 0) true) b fit.1.0 h.1.0 ∙ bit_stays (arg bound 0) true image b fit.0 h.0
      by_condition false =
          let v = bit_value first flags image (arg bound 0) in
          bit_stays (arg bound 0) false (put_bit image (arg bound 1) v) b fit.0 h.0 ∙ bit_stays (arg bound 1) v image b fit.1.0 h.1.0
  bits_keep Afi is bound fit h = refl
  bits_keep _ is bound fit h = absurd (cc is)

  -- timers, counters and RES
  timer_row_stays : (o : Option (List ℕ)) → SameSome b o image → Stays (timer_row args on now first frames flags image o).image image b
  timer_row_stays (Some after) h = h
  timer_row_stays None h = refl

  timer_stays : (op : Op) (a : Arg) → IsTimerPlace a → ArgMisses b a → Stays (timer_row args on now first frames flags image (timer op (byte_of a) on now image)).image image b
  timer_stays op a is h = timer_row_stays (timer op (byte_of a) on now image) (timer_same (byte_of a) TIMER_BYTES b (timer_beside b a is h) (omega arith) op on now image)

  counter_stays : (op : Op) (a : Arg) → IsCounterPlace a → ArgMisses b a → Stays (counter op (byte_of a) on image) image b
  counter_stays op a is h = counter_same (byte_of a) COUNTER_BYTES b (counter_beside b a is h) (omega arith) op on image

  reset_stays : (a : Arg) → IsTimerPlace a ⊎ IsCounterPlace a → ArgMisses b a → Stays (reset (byte_of a) on image) image b
  reset_stays a (inl is) h = reset_same (byte_of a) TIMER_BYTES b (timer_beside b a is h) (omega arith) on image
  reset_stays a (inr is) h = reset_same (byte_of a) COUNTER_BYTES b (counter_beside b a is h) (omega arith) on image

  timer_keeps : (op : Op) → family_of op ≡ Timer → Keeps Timer op
  timer_keeps Ton is bound fit h = timer_stays Ton (arg bound 0) fit.0 h.0
  timer_keeps Rto is bound fit h = timer_stays Rto (arg bound 0) fit.0 h.0
  timer_keeps Tof is bound fit h = timer_stays Tof (arg bound 0) fit.0 h.0
  timer_keeps _ is bound fit h = absurd (cc is)

  counter_keeps : (op : Op) → family_of op ≡ Counter → Keeps Counter op
  counter_keeps Ctu is bound fit h = counter_stays Ctu (arg bound 0) fit.0 h.0
  counter_keeps Ctd is bound fit h = counter_stays Ctd (arg bound 0) fit.0 h.0
  counter_keeps _ is bound fit h = absurd (cc is)

  reset_keeps : (op : Op) → family_of op ≡ Reset → Keeps Reset op
  reset_keeps Res is bound fit h = reset_stays (arg bound 0) fit.0 h.0
  reset_keeps _ is bound fit h = absurd (cc is)

  -- a copy's start changes nothing
  copy_stays : (o : Option Copying) → Stays (copy_row args on now first frames flags image o).image image b
  copy_stays (Some c) = refl
  copy_stays None = refl

  -- ---- a call, an SBR and a RET

  call_stays : (bound : List Arg) → Stays (call_row args on now first frames flags image bound).image image b
  call_stays bound = cond_both (nat_lt (length frames) MAX_FRAMES) _ _ (λ (r : Row). Stays r.image image b) (λ e. refl) (λ e. refl)

  store_stays : (places : List Place) (numbers : List ℤ) (control : Control) → Each (PlaceMisses b) places → Stays (store_row args on now first frames flags image places numbers control).image image b
  store_stays places numbers control h = cond_both (nat_lt (length numbers) (length places)) _ _ (λ (r : Row). Stays r.image image b) (λ e. refl) (λ e. store_keeps image places numbers b h)

  -- the places at which an SBR and a RET store
  pub record Stores (op : Op) (bound : List Arg) : Type 0 where
    pub entry : op ≡ Sbr → Each (PlaceMisses b) (map place_of bound)
    pub leave : op ≡ Ret → Each (PlaceMisses b) (returns_wanted frames)

  -- ---- every instruction

  control_keeps : (op : Op) (bound : List Arg) → Stores op bound → Stays (program_control args on now first frames flags image op bound).image image b
  control_keeps Jsr bound s = call_stays bound
  control_keeps Sbr bound s = store_stays (map place_of bound) (inputs_handed frames) Nothing (s.entry refl)
  control_keeps Ret bound s = store_stays (returns_wanted frames) (map (value_of image) bound) Return (s.leave refl)
  control_keeps _ bound s = refl

  -- an instruction of another family has no operands but those that it always has
  abbrev IsFixed : Family → Type 0
  IsFixed ProgramControl = ⊥
  IsFixed _ = ⊤

  no_more : (f : Family) (op : Op) → family_of op ≡ f → IsFixed f → further op ≡ NoMore
  no_more f Jsr is fixed = absurd (subst IsFixed (sym is) fixed)
  no_more f Sbr is fixed = absurd (subst IsFixed (sym is) fixed)
  no_more f Ret is fixed = absurd (subst IsFixed (sym is) fixed)
  no_more f _ is fixed = refl

  family_keeps : (f : Family) (op : Op) (bound : List Arg) → family_of op ≡ f → ArgsFit op bound → (further op ≡ NoMore → ArgsMissFrom b 0 (fixed_kinds op) bound) → Stores op bound → Stays (family_row args on now first frames flags image f op bound).image image b
  family_keeps Bit op bound is fit h s = bits_keep op is bound fit (h (no_more Bit op is tt))
  family_keeps Timer op bound is fit h s = timer_keeps op is bound fit (h (no_more Timer op is tt))
  family_keeps Counter op bound is fit h s = counter_keeps op is bound fit (h (no_more Counter op is tt))
  family_keeps Reset op bound is fit h s = reset_keeps op is bound fit (h (no_more Reset op is tt))
  family_keeps Comparison op bound is fit h s = refl
  family_keeps Arithmetic op bound is fit h s = arithmetic_keeps op is bound fit (h (no_more Arithmetic op is tt))
  family_keeps Copy op bound is fit h s = copy_stays (start_copy op bound image)
  family_keeps ProgramControl op bound is fit h s = control_keeps op bound s

-- an instruction changes no byte that what it writes misses
pub rows_keep : RowsWriteBeside
rows_keep i on now first frames flags image b fit h returns = by_condition (on || acts_when_false i.op)
  where
    entry : (op : Op) (bound : List Arg) → OperandsFit op i.args → WritesBeside b (record { op = op; args = i.args }) → bind image i.args ≡ Some bound → op ≡ Sbr → Each (PlaceMisses b) (map place_of bound)
    entry Sbr bound fits misses found is = entry_misses image i.args bound b fits misses found
    entry _ bound fits misses found is = absurd (cc is)

    by_bound : (found : Option (List Arg)) → bind image i.args ≡ found → Stays (with_bound i.args on now first frames flags image i.op found).image image b
    by_bound (Some bound) found = family_keeps i.args on now first frames flags image b (family_of i.op) i.op bound refl (args_fit image i.args bound i.op found fit) (λ no_more. args_miss image i bound b no_more fit found h) (record { entry = entry i.op bound fit h found; leave = returns })
    by_bound None found = refl

    by_condition : (c : Bool) → Stays (if c then with_bound i.args on now first frames flags image i.op (bind image i.args) else pass_on i.args on now first frames flags image Nothing).image image b
    by_condition true = by_bound (bind image i.args) refl
    by_condition false = refl
