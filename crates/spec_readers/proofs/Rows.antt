-- Rows of instructions whose operands that are read have nothing to do with some bytes.
use Rattle.std.specs.Prelude.{⊤, not, ◌&&◌, ◌||◌, map, min, nat_eq, nat_lt, int_lt}
use Rattle.std.specs.List.{AllByRecursion as Each}
use Rattle.std.proofs.Common.{◌≡◌, ℕ, ◌+◌, Bool, true, false, if◌then◌else◌, List, [], ◌∷◌, ℤ, pos, length, arith, Option, Some, None, refl, sym, subst, ap, ◌∙◌}
use Rattle.spec_base.specs.declared.limits.TheConstants.{MAX_FRAMES, TIMER_BYTES, COUNTER_BYTES}
use Rattle.spec_tables.specs.declared.fault.TheConstants.{MISSING_PARAMETERS, BAD_TIMER, TOO_DEEP}
use Rattle.lgx_num.specs.declared.number.Kind.{Kind}
use Rattle.lgx_num.specs.declared.place.Flags.{Flags}
use Rattle.lgx_num.specs.declared.place.Operand.{Operand}
use Rattle.lgx_num.specs.declared.place.Place.{Place}
use Rattle.lgx_num.specs.Number.{store_low}
use Rattle.lgx_num.specs.Image.{number, write}
use Rattle.lgx_rung.specs.declared.op.Op.{Op}
use Rattle.lgx_rung.specs.declared.op.Op.TheVariants.{Xic, Xio, Ote, Otl, Otu, Ons, Osr, Osf, Afi, Ton, Rto, Tof, Ctu, Ctd, Equ, Neq, Les, Leq, Grt, Geq, Lim, Meq, Add, Sub, Mul, Div, Mod, Neg, Abs, Mov, And, Or, Xor, Not, Mvm, Clr, Cop, Cps, Fll, Jsr, Sbr, Ret, Tnd, Jmp, Mcr, Uid, Uie, Event}
use Rattle.lgx_rung.specs.declared.operands.Family.{Family}
use Rattle.lgx_rung.specs.declared.operands.Family.TheVariants.{Bit, Timer, Counter, Reset, Comparison, Arithmetic, Copy, ProgramControl}
use Rattle.lgx_rung.specs.declared.operands.OperandKind.{OperandKind}
use Rattle.lgx_rung.specs.OperandTable.{fixed_kinds, family_of}
use Rattle.spec_scan.specs.declared.bound.Arg.{Arg}
use Rattle.spec_scan.specs.declared.bound.Arg.TheVariants as bound
use Rattle.spec_scan.specs.declared.bound.Copying.{Copying}
use Rattle.spec_scan.specs.Arguments.{arg, bit_value, byte_of, is_one, place_of, put_bit, value_of, bit_number}
use Rattle.spec_scan.specs.Arithmetic.{math, dest, result_of, overflows, masked_move, is_zero, quotient, remainder}
use Rattle.spec_scan.specs.Bits.{BitStep, bits}
use Rattle.spec_scan.specs.Comparisons.{compare, holds}
use Rattle.spec_scan.specs.Copies.{positive, elements_in, elements, fill_of, copy_of, start_copy}
use Rattle.spec_scan.specs.Counters.{counter}
use Rattle.spec_scan.specs.Fits.{ArgsFit, IsPlace, IsTimerPlace, IsCounterPlace}
use Rattle.spec_scan.specs.Instructions.{Control, Nothing, Call, Return, Jump, ToggleZone, Up, Down, TriggerTask, StartCopy, MinorFault, MajorFault, Row, target, pass_on, timer_row, math_row, copy_row, call_row, store_row, program_control, family_row}
use Rattle.spec_scan.specs.Parameters.{inputs_of, returns_of, inputs_handed, returns_wanted, store_all}
use Rattle.spec_scan.specs.Position.{Frame}
use Rattle.spec_scan.specs.Timers.{timer}
use Rattle.spec_uses.specs.Written.{is_written, reads_written}
use Rattle.spec_beside.proofs.Beside.{ArgMisses}
use Rattle.spec_beside.proofs.Rows.{timer_beside, counter_beside}
use Rattle.spec_readers.specs.Reads.{AreSameBut, MakeSameBut}
use Rattle.spec_readers.proofs.Images.{write_same, place_same}
use Rattle.spec_readers.proofs.Words.{SameSome, reset_same, counter_same, timer_same}

-- the kinds of operands that an instruction reads
abbrev pub reads : Op → OperandKind → Bool
reads op kind = reads_written op || not (is_written kind)

module _ (T : ℕ → Type 0) where
  -- an operand has nothing to do with the bytes
  abbrev pub ArgSpares : Arg → Type 0
  ArgSpares a = (b : ℕ) → T b → ArgMisses b a

  abbrev pub IfRead : Bool → Type 0 → Type 0
  IfRead true P = P
  IfRead false P = ⊤

  -- of operands of these kinds, those that are read; from number i on
  abbrev pub ArgsSpareFrom : Op → ℕ → List OperandKind → List Arg → Type 0
  ArgsSpareFrom op i [] args = ⊤
  ArgsSpareFrom op i (kind ∷ kinds) args = IfRead (reads op kind) (ArgSpares (arg args i)) × ArgsSpareFrom op (i + 1) kinds args

  abbrev pub ArgsSpare : Op → List Arg → Type 0
  ArgsSpare op args = ArgsSpareFrom op 0 (fixed_kinds op) args

  module _ (args : List Operand) (on : Bool) (now : ℕ) (first : Bool) (frames : List Frame) (flags : Flags) (x y : List ℕ) (h : AreSameBut T x y) where
    abbrev Makes : Row → Row → Type 0
    Makes r q = MakeSameBut T r q

    abbrev MakesIn : Family → Op → List Arg → Type 0
    MakesIn f op given = Makes (family_row args on now first frames flags x f op given) (family_row args on now first frames flags y f op given)

    -- ---- values

    value_same : (a : Arg) → ArgSpares a → value_of x a ≡ value_of y a
    value_same (bound.Cell p) s = place_same T x y p h s
    value_same _ s = refl

    bit_same : (a : Arg) → ArgSpares a → bit_value first flags x a ≡ bit_value first flags y a
    bit_same (bound.Cell p) s = ap is_one (place_same T x y p h s)
    bit_same _ s = refl

    pub values_same : (given : List Arg) → Each ArgSpares given → map (value_of x) given ≡ map (value_of y) given
    values_same [] s = refl
    values_same (a ∷ given) s = ap (λ (v : ℤ). v ∷ map (value_of x) given) (value_same a s.0) ∙ ap (λ (vs : List ℤ). value_of y a ∷ vs) (values_same given s.1)

    -- ---- rows

    pub passes : (d : Control) → Makes (pass_on args on now first frames flags x d) (pass_on args on now first frames flags y d)
    passes d = record { on = refl; flags = refl; control = refl; image = h }

    goes : (d e : Control) → d ≡ e → Makes (pass_on args on now first frames flags x d) (pass_on args on now first frames flags y e)
    goes d e same = record { on = refl; flags = refl; control = same; image = h }

    bit_put : (a : Arg) (v w : Bool) (u z : List ℕ) → v ≡ w → AreSameBut T u z → AreSameBut T (put_bit u a v) (put_bit z a w)
    bit_put a v w u z e k =
        subst (λ (c : Bool). AreSameBut T (put_bit u a v) (put_bit z a c)) e (write_same T (place_of a).kind u z (place_of a).at (bit_number v) k)

    if_put : (c : Bool) (a : Arg) (v : Bool) → AreSameBut T (if c then put_bit x a v else x) (if c then put_bit y a v else y)
    if_put true a v = bit_put a v v x y refl h
    if_put false a v = h

    abbrev by_bits : BitStep → Row
    by_bits r = record { on = r.on; image = r.image; flags = flags; control = Nothing }

    bits_same : (op : Op) → family_of op ≡ Bit → (given : List Arg) → ArgsSpare op given → MakesIn Bit op given
    bits_same Xic is given s = record { on = ap (λ (v : Bool). on && v) (bit_same (arg given 0) s.0); flags = refl; control = refl; image = h }
    bits_same Xio is given s = record { on = ap (λ (v : Bool). on && not v) (bit_same (arg given 0) s.0); flags = refl; control = refl; image = h }
    bits_same Ote is given s = record { on = refl; flags = refl; control = refl; image = bit_put (arg given 0) on on x y refl h }
    bits_same Otl is given s = record { on = refl; flags = refl; control = refl; image = if_put on (arg given 0) true }
    bits_same Otu is given s = record { on = refl; flags = refl; control = refl; image = if_put on (arg given 0) false }
    bits_same Ons is given s = record { on = ap (λ (v : Bool). on && not v) (bit_same (arg given 0) s.0); flags = refl; control = refl; image = bit_put (arg given 0) on on x y refl h }
    bits_same Osr is given s = record {
      on = refl;
      flags = refl;
      control = refl;
      image = bit_put (arg given 0) on on _ _ refl (bit_put (arg given 1) _ _ x y (ap (λ (v : Bool). on && not v) (bit_same (arg given 0) s.0)) h);
    }
    bits_same Osf is given s = by_condition on
      where
        by_condition : (c : Bool) → Makes (by_bits (bits Osf given c first flags x)) (by_bits (bits Osf given c first flags y))
        by_condition true = record { on = refl; flags = refl; control = refl; image = bit_put (arg given 1) false false _ _ refl (bit_put (arg given 0) true true x y refl h) }
        by_condition false = record { on = refl; flags = refl; control = refl; image = bit_put (arg given 0) false false _ _ refl (bit_put (arg given 1) _ _ x y (bit_same (arg given 0) s.0) h) }
    bits_same Afi is given s = record { on = refl; flags = refl; control = refl; image = h }
    bits_same _ is given s = absurd (cc is)

    -- ---- timers and counters

    by_timer : (o p : Option (List ℕ)) → SameSome T o p → Makes (timer_row args on now first frames flags x o) (timer_row args on now first frames flags y p)
    by_timer (Some u) (Some v) k = record { on = refl; flags = refl; control = refl; image = k }
    by_timer None None k = passes (MajorFault BAD_TIMER)
    by_timer (Some u) None k = absurd k
    by_timer None (Some v) k = absurd k

    timer_row_same : (op : Op) (a : Arg) → IsTimerPlace a → ArgSpares a → Makes (timer_row args on now first frames flags x (timer op (byte_of a) on now x)) (timer_row args on now first frames flags y (timer op (byte_of a) on now y))
    timer_row_same op a is s = by_timer _ _ (timer_same T (byte_of a) TIMER_BYTES (λ b t. timer_beside b a is (s b t)) (omega arith) (omega arith) op on now x y h)

    timers_same : (op : Op) → family_of op ≡ Timer → (given : List Arg) → ArgsFit op given → ArgsSpare op given → Makes (timer_row args on now first frames flags x (timer op (byte_of (arg given 0)) on now x)) (timer_row args on now first frames flags y (timer op (byte_of (arg given 0)) on now y))
    timers_same Ton is given fit s = timer_row_same Ton (arg given 0) fit.0 s.0
    timers_same Rto is given fit s = timer_row_same Rto (arg given 0) fit.0 s.0
    timers_same Tof is given fit s = timer_row_same Tof (arg given 0) fit.0 s.0
    timers_same _ is given fit s = absurd (cc is)

    counter_image : (op : Op) (a : Arg) → IsCounterPlace a → ArgSpares a → AreSameBut T (counter op (byte_of a) on x) (counter op (byte_of a) on y)
    counter_image op a is s = counter_same T (byte_of a) COUNTER_BYTES (λ b t. counter_beside b a is (s b t)) (omega arith) op on x y h

    counters_same : (op : Op) → family_of op ≡ Counter → (given : List Arg) → ArgsFit op given → ArgsSpare op given → AreSameBut T (counter op (byte_of (arg given 0)) on x) (counter op (byte_of (arg given 0)) on y)
    counters_same Ctu is given fit s = counter_image Ctu (arg given 0) fit.0 s.0
    counters_same Ctd is given fit s = counter_image Ctd (arg given 0) fit.0 s.0
    counters_same _ is given fit s = absurd (cc is)

    -- ---- comparisons

    two : (f : ℤ → ℤ → Bool) (a b c d : ℤ) → a ≡ c → b ≡ d → f a b ≡ f c d
    two f a b c d e k = ap (λ (v : ℤ). f v b) e ∙ ap (f c) k

    compares : (op : Op) → family_of op ≡ Comparison → (given : List Arg) → ArgsSpare op given → compare op given x ≡ compare op given y
    compares Equ is given s = two (λ a b. holds Equ a b b) _ _ _ _ (value_same (arg given 0) s.0) (value_same (arg given 1) s.1.0)
    compares Neq is given s = two (λ a b. holds Neq a b b) _ _ _ _ (value_same (arg given 0) s.0) (value_same (arg given 1) s.1.0)
    compares Les is given s = two (λ a b. holds Les a b b) _ _ _ _ (value_same (arg given 0) s.0) (value_same (arg given 1) s.1.0)
    compares Leq is given s = two (λ a b. holds Leq a b b) _ _ _ _ (value_same (arg given 0) s.0) (value_same (arg given 1) s.1.0)
    compares Grt is given s = two (λ a b. holds Grt a b b) _ _ _ _ (value_same (arg given 0) s.0) (value_same (arg given 1) s.1.0)
    compares Geq is given s = two (λ a b. holds Geq a b b) _ _ _ _ (value_same (arg given 0) s.0) (value_same (arg given 1) s.1.0)
    compares Lim is given s =
        two (λ a b. holds Lim a b (value_of x (arg given 2))) _ _ _ _ (value_same (arg given 0) s.0) (value_same (arg given 1) s.1.0)
        ∙ ap (holds Lim (value_of y (arg given 0)) (value_of y (arg given 1))) (value_same (arg given 2) s.1.1.0)
    compares Meq is given s =
        two (λ a b. holds Meq a b (value_of x (arg given 2))) _ _ _ _ (value_same (arg given 0) s.0) (value_same (arg given 1) s.1.0)
        ∙ ap (holds Meq (value_of y (arg given 0)) (value_of y (arg given 1))) (value_same (arg given 2) s.1.1.0)
    compares _ is given s = absurd (cc is)

    -- ---- arithmetic

    abbrev place : Op → List Arg → Place
    place op given = place_of (arg given (dest op))

    abbrev result : Op → List Arg → List ℕ → ℤ
    result op given image = result_of op (value_of image (arg given 0)) (value_of image (arg given 1)) (number image (place op given))

    abbrev over : Op → List Arg → List ℕ → Bool
    over op given image = overflows op (place op given).kind (value_of image (arg given 1)) (result op given image)

    abbrev MathSame : Op → List Arg → Type 0
    MathSame op given = Makes (math_row args on now first frames flags x (math op given x)) (math_row args on now first frames flags y (math op given y))

    abbrev flags_of : Kind → Bool → ℤ → Flags
    flags_of kind v r = record { v = v; z = is_zero (store_low kind r); n = int_lt (store_low kind r) (pos 0) }

    by_result : (op : Op) (given : List Arg) → result op given x ≡ result op given y → over op given x ≡ over op given y → MathSame op given
    by_result op given e o = record {
      on = refl;
      flags = ap (λ (v : Bool). flags_of (place op given).kind v (result op given x)) o ∙ ap (flags_of (place op given).kind (over op given y)) e;
      control = ap (λ (v : Bool). if v then MinorFault else Nothing) o;
      image = subst (λ (r : ℤ). AreSameBut T (write x (place op given) (store_low (place op given).kind (result op given x))) (write y (place op given) (store_low (place op given).kind r))) e (write_same T (place op given).kind x y (place op given).at (store_low (place op given).kind (result op given x)) h);
    }

    -- two sources, and the overflow by the result alone
    from_two : (op : Op) (f : ℤ → ℤ → ℤ) (given : List Arg) → ((v w d : ℤ) → result_of op v w d ≡ f v w) → ((k : Kind) (v w r : ℤ) → overflows op k v r ≡ overflows op k w r) → ArgSpares (arg given 0) → ArgSpares (arg given 1) → MathSame op given
    from_two op f given of by s t = by_result op given e (by (place op given).kind (value_of x (arg given 1)) (value_of y (arg given 1)) (result op given x) ∙ ap (overflows op (place op given).kind (value_of y (arg given 1))) e)
      where
        e : result op given x ≡ result op given y
        e = of (value_of x (arg given 0)) (value_of x (arg given 1)) (number x (place op given)) ∙ (ap (λ (v : ℤ). f v (value_of x (arg given 1))) (value_same (arg given 0) s) ∙ (ap (f (value_of y (arg given 0))) (value_same (arg given 1) t) ∙ sym (of (value_of y (arg given 0)) (value_of y (arg given 1)) (number y (place op given)))))

    from_one : (op : Op) (f : ℤ → ℤ) (given : List Arg) → ((v w d : ℤ) → result_of op v w d ≡ f v) → ((k : Kind) (v w r : ℤ) → overflows op k v r ≡ overflows op k w r) → ArgSpares (arg given 0) → MathSame op given
    from_one op f given of by s = by_result op given e (by (place op given).kind (value_of x (arg given 1)) (value_of y (arg given 1)) (result op given x) ∙ ap (overflows op (place op given).kind (value_of y (arg given 1))) e)
      where
        e : result op given x ≡ result op given y
        e = of (value_of x (arg given 0)) (value_of x (arg given 1)) (number x (place op given)) ∙ (ap f (value_same (arg given 0) s) ∙ sym (of (value_of y (arg given 0)) (value_of y (arg given 1)) (number y (place op given))))

    -- a quotient's overflow is also of its divisor
    from_quotient : (op : Op) (f : ℤ → ℤ → ℤ) (given : List Arg) → ((v w d : ℤ) → result_of op v w d ≡ f v w) → ArgSpares (arg given 0) → ArgSpares (arg given 1) → MathSame op given
    from_quotient op f given of s t =
        by_result op given e (ap (λ (v : ℤ). overflows op (place op given).kind v (result op given x)) (value_same (arg given 1) t) ∙ ap (overflows op (place op given).kind (value_of y (arg given 1))) e)
      where
        e : result op given x ≡ result op given y
        e = of (value_of x (arg given 0)) (value_of x (arg given 1)) (number x (place op given)) ∙ (ap (λ (v : ℤ). f v (value_of x (arg given 1))) (value_same (arg given 0) s) ∙ (ap (f (value_of y (arg given 0))) (value_same (arg given 1) t) ∙ sym (of (value_of y (arg given 0)) (value_of y (arg given 1)) (number y (place op given)))))

    -- MVM reads where it writes
    dest_same : (a : Arg) → IsPlace a → ArgSpares a → number x (place_of a) ≡ number y (place_of a)
    dest_same (bound.Cell p) is s = place_same T x y p h s
    dest_same _ is s = absurd is

    maths_same : (op : Op) → family_of op ≡ Arithmetic → (given : List Arg) → ArgsFit op given → ArgsSpare op given → MathSame op given
    maths_same Add is given fit s = from_two Add (λ v w. result_of Add v w w) given (λ v w d. refl) (λ k v w r. refl) s.0 s.1.0
    maths_same Sub is given fit s = from_two Sub (λ v w. result_of Sub v w w) given (λ v w d. refl) (λ k v w r. refl) s.0 s.1.0
    maths_same Mul is given fit s = from_two Mul (λ v w. result_of Mul v w w) given (λ v w d. refl) (λ k v w r. refl) s.0 s.1.0
    maths_same And is given fit s = from_two And (λ v w. result_of And v w w) given (λ v w d. refl) (λ k v w r. refl) s.0 s.1.0
    maths_same Or is given fit s = from_two Or (λ v w. result_of Or v w w) given (λ v w d. refl) (λ k v w r. refl) s.0 s.1.0
    maths_same Xor is given fit s = from_two Xor (λ v w. result_of Xor v w w) given (λ v w d. refl) (λ k v w r. refl) s.0 s.1.0
    maths_same Div is given fit s = from_quotient Div quotient given (λ v w d. refl) s.0 s.1.0
    maths_same Mod is given fit s = from_quotient Mod remainder given (λ v w d. refl) s.0 s.1.0
    maths_same Neg is given fit s = from_one Neg (λ v. result_of Neg v v v) given (λ v w d. refl) (λ k v w r. refl) s.0
    maths_same Abs is given fit s = from_one Abs (λ v. result_of Abs v v v) given (λ v w d. refl) (λ k v w r. refl) s.0
    maths_same Mov is given fit s = from_one Mov (λ v. result_of Mov v v v) given (λ v w d. refl) (λ k v w r. refl) s.0
    maths_same Not is given fit s = from_one Not (λ v. result_of Not v v v) given (λ v w d. refl) (λ k v w r. refl) s.0
    maths_same Mvm is given fit s = by_result Mvm given e (ap (overflows Mvm (place Mvm given).kind (pos 0)) e)
      where
        e : result Mvm given x ≡ result Mvm given y
        e =
            ap (λ (v : ℤ). masked_move v (value_of x (arg given 1)) (number x (place Mvm given))) (value_same (arg given 0) s.0)
            ∙ (ap (λ (v : ℤ). masked_move (value_of y (arg given 0)) v (number x (place Mvm given))) (value_same (arg given 1) s.1.0)
            ∙ ap (masked_move (value_of y (arg given 0)) (value_of y (arg given 1))) (dest_same (arg given 2) fit.1.1.0 s.1.1.0))
    maths_same Clr is given fit s = by_result Clr given refl refl
    maths_same _ is given fit s = absurd (cc is)

    -- ---- copies

    by_copy : (o p : Option Copying) → o ≡ p → Makes (copy_row args on now first frames flags x o) (copy_row args on now first frames flags y p)
    by_copy o p e = subst (λ (q : Option Copying). Makes (copy_row args on now first frames flags x o) (copy_row args on now first frames flags y q)) e (starts o)
      where
        starts : (o : Option Copying) → Makes (copy_row args on now first frames flags x o) (copy_row args on now first frames flags y o)
        starts (Some c) = passes (StartCopy c)
        starts None = passes Nothing

    -- so many elements of this fill
    abbrev copy_with : Op → List Arg → Option ℤ → ℕ → Option Copying
    copy_with op given fill n = if nat_eq n 0 then None else Some (record (copy_of op given x n) { fill = fill })

    starts_same : (op : Op) (given : List Arg) → elements op given x ≡ elements op given y → fill_of op given x ≡ fill_of op given y → start_copy op given x ≡ start_copy op given y
    starts_same op given e f = ap (copy_with op given (fill_of op given x)) e ∙ ap (λ (fill : Option ℤ). copy_with op given fill (elements op given y)) f

    abbrev asks : List Arg → ℤ → ℕ
    asks given v = min (positive v) (elements_in given (arg given 1))

    copies_same : (op : Op) → family_of op ≡ Copy → (given : List Arg) → ArgsSpare op given → start_copy op given x ≡ start_copy op given y
    copies_same Cop is given s = starts_same Cop given (ap (λ (v : ℤ). min (asks given v) (elements_in given (arg given 0))) (value_same (arg given 2) s.1.1.0)) refl
    copies_same Cps is given s = starts_same Cps given (ap (λ (v : ℤ). min (asks given v) (elements_in given (arg given 0))) (value_same (arg given 2) s.1.1.0)) refl
    copies_same Fll is given s = starts_same Fll given (ap (asks given) (value_same (arg given 2) s.1.1.0)) (ap (λ (v : ℤ). Some v) (value_same (arg given 0) s.0))
    copies_same _ is given s = absurd (cc is)

    -- ---- calls, entries and returns

    call_same : (given : List Arg) → inputs_of given x ≡ inputs_of given y → Makes (call_row args on now first frames flags x given) (call_row args on now first frames flags y given)
    call_same given e = go (nat_lt (length frames) MAX_FRAMES)
      where
        go : (room : Bool) → Makes (if room then pass_on args on now first frames flags x (Call (target args) (inputs_of given x) (returns_of given)) else pass_on args on now first frames flags x (MajorFault TOO_DEEP)) (if room then pass_on args on now first frames flags y (Call (target args) (inputs_of given y) (returns_of given)) else pass_on args on now first frames flags y (MajorFault TOO_DEEP))
        go true = goes _ _ (ap (λ (vs : List ℤ). Call (target args) vs (returns_of given)) e)
        go false = passes (MajorFault TOO_DEEP)

    stored_same : (u z : List ℕ) (places : List Place) (numbers : List ℤ) → AreSameBut T u z → AreSameBut T (store_all u places numbers) (store_all z places numbers)
    stored_same u z [] numbers k = k
    stored_same u z (p ∷ ps) [] k = k
    stored_same u z (p ∷ ps) (v ∷ vs) k = stored_same (write u p v) (write z p v) ps vs (write_same T p.kind u z p.at v k)

    store_same : (places : List Place) (numbers : List ℤ) (d : Control) → Makes (store_row args on now first frames flags x places numbers d) (store_row args on now first frames flags y places numbers d)
    store_same places numbers d = go (nat_lt (length numbers) (length places))
      where
        go : (missing : Bool) → Makes (if missing then pass_on args on now first frames flags x (MajorFault MISSING_PARAMETERS) else record { on = on; image = store_all x places numbers; flags = flags; control = d }) (if missing then pass_on args on now first frames flags y (MajorFault MISSING_PARAMETERS) else record { on = on; image = store_all y places numbers; flags = flags; control = d })
        go true = passes (MajorFault MISSING_PARAMETERS)
        go false = record { on = refl; flags = refl; control = refl; image = stored_same x y places numbers h }

    -- what a JSR hands over, and what a RET returns
    pub record Hands (op : Op) (given : List Arg) : Type 0 where
      pub inputs : op ≡ Jsr → inputs_of given x ≡ inputs_of given y
      pub returned : op ≡ Ret → map (value_of x) given ≡ map (value_of y) given

    controls_same : (op : Op) (given : List Arg) → Hands op given → Makes (program_control args on now first frames flags x op given) (program_control args on now first frames flags y op given)
    controls_same Jsr given k = call_same given (k.inputs refl)
    controls_same Sbr given k = store_same (map place_of given) (inputs_handed frames) Nothing
    controls_same Ret given k =
        subst (λ (vs : List ℤ). Makes (store_row args on now first frames flags x (returns_wanted frames) (map (value_of x) given) Return) (store_row args on now first frames flags y (returns_wanted frames) vs Return)) (k.returned refl)
        (store_same (returns_wanted frames) (map (value_of x) given) Return)
    controls_same Tnd given k = passes Return
    controls_same Jmp given k = passes (Jump (target args))
    controls_same Mcr given k = passes ToggleZone
    controls_same Uid given k = passes Up
    controls_same Uie given k = passes Down
    controls_same Event given k = passes (TriggerTask (target args))
    controls_same _ given k = passes Nothing

    -- ---- every instruction

    counts : (op : Op) (given : List Arg) → AreSameBut T (counter op (byte_of (arg given 0)) on x) (counter op (byte_of (arg given 0)) on y) → MakesIn Counter op given
    counts op given k = record { on = refl; flags = refl; control = refl; image = k }

    resets : (op : Op) (given : List Arg) → MakesIn Reset op given
    resets op given = record { on = refl; flags = refl; control = refl; image = reset_same T (byte_of (arg given 0)) on x y h }

    -- an instruction of another family has no operands but those that it always has
    abbrev pub IsFixed : Family → Type 0
    IsFixed ProgramControl = ⊥
    IsFixed _ = ⊤

    pub family_same : (f : Family) (op : Op) (given : List Arg) → family_of op ≡ f → ArgsFit op given → (IsFixed f → ArgsSpare op given) → Hands op given → MakesIn f op given
    family_same Bit op given is fit s k = bits_same op is given (s tt)
    family_same Timer op given is fit s k = timers_same op is given fit (s tt)
    family_same Counter op given is fit s k = counts op given (counters_same op is given fit (s tt))
    family_same Reset op given is fit s k = resets op given
    family_same Comparison op given is fit s k = record { on = compares op is given (s tt); flags = refl; control = refl; image = h }
    family_same Arithmetic op given is fit s k = maths_same op is given fit (s tt)
    family_same Copy op given is fit s k = by_copy _ _ (copies_same op is given (s tt))
    family_same ProgramControl op given is fit s k = controls_same op given k
