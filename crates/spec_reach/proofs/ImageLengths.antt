-- What a step of a scan, a prescan and a word leave of an image is as long as it was.
use Rattle.std.proofs.Common.{◌≡◌, ℕ, ◌+◌, Bool, true, false, ◌||◌, List, [], ◌∷◌, length, map, ℤ, Option, Some, None, refl, ◌∙◌, subst}
use Rattle.std.specs.Prelude.{pos, negsuc, ◌+ℤ◌, not, fold, nat_lt, if◌then◌else◌}
use Rattle.std.specs.Int.{w32}
use Rattle.std.proofs.lemmas.Bool.{cond_both}
use Rattle.lgx_num.specs.declared.number.Kind.{Kind}
use Rattle.lgx_num.specs.declared.number.Kind.TheVariants.{Bool as KBool, Dint}
use Rattle.lgx_num.specs.declared.place.Flags.{Flags}
use Rattle.lgx_num.specs.declared.place.Place.{Place}
use Rattle.lgx_num.specs.declared.place.Operand.{Operand}
use Rattle.lgx_num.specs.Image.{write_signed, write_of, write}
use Rattle.lgx_num.specs.Number.{int_eq, least, greatest, signed_bytes}
use Rattle.lgx_num.proofs.Images.{length-splice, write_keeps_length}
use Rattle.lgx_rung.specs.Tree.{Tree, end, one, fork}
use Rattle.lgx_rung.specs.declared.ins.Ins.{Ins}
use Rattle.lgx_rung.specs.declared.op.Op.{Op}
use Rattle.lgx_rung.specs.declared.op.Op.TheVariants.{Xic, Xio, Ote, Otl, Otu, Ons, Osr, Osf, Ton, Rto, Tof, Ctu, Ctd, Jsr, Sbr, Ret, Afi}
use Rattle.lgx_rung.specs.declared.operands.Family.{Family}
use Rattle.lgx_rung.specs.declared.operands.Family.TheVariants.{Bit, Timer, Counter, Reset, Comparison, Arithmetic, Copy, ProgramControl}
use Rattle.lgx_rung.specs.OperandTable.{family_of}
use Rattle.spec_base.specs.declared.limits.TheConstants.{MAX_FRAMES}
use Rattle.spec_scan.specs.declared.bound.Arg.{Arg}
use Rattle.spec_scan.specs.declared.bound.Copying.{Copying}
use Rattle.spec_scan.specs.Arguments.{bind, arg, byte_of, place_of, value_of, put_bit, bit_value}
use Rattle.spec_scan.specs.Arithmetic.{math}
use Rattle.spec_scan.specs.Bits.{bits}
use Rattle.spec_scan.specs.Copies.{start_copy, element_bytes}
use Rattle.spec_scan.specs.Counters.{counter, one_up, one_down, with_done}
use Rattle.spec_scan.specs.Instructions.{Control, Nothing, Call, Return, Jump, ToggleZone, Up, Down, TriggerTask, StartCopy, MinorFault, MajorFault, Row, row, program_control, family_row, with_bound, timer_row, copy_row, store_row, call_row, acts_when_false}
use Rattle.spec_scan.specs.Parameters.{inputs_handed, returns_wanted, store_all}
use Rattle.spec_scan.specs.Position.{ProgramRungs, Frame, Position}
use Rattle.spec_scan.specs.Prescan.{prescan_one, prescan_bound, prescan_ins, prescan, reached_instructions}
use Rattle.spec_scan.specs.Scan.{after_row, in_frame, in_frames, in_progress, advance}
use Rattle.spec_scan.specs.StatusWords.{en_bit, tt_bit, dn_bit, cu_bit, cd_bit, ov_bit, un_bit, status, put_status, put_dint, put_acc, put_last_tick, reset, acc, pre, is_reached}
use Rattle.spec_scan.specs.Timers.{timer, count_on, count_off, counted_on, counted_off, with_done_off, add_ticks, accumulated, has_negative}

-- as long as the image
abbrev pub SameLength : List ℕ → List ℕ → Type 0
SameLength image after = length after ≡ length image

-- ---- writes

write_of_length : (kind : Kind) (image : List ℕ) (at : ℕ) (v : ℤ) → SameLength image (write_of kind image at v)
write_of_length kind image at v = write_keeps_length image (record { kind = kind; at = at }) v

pub write_length : (image : List ℕ) (p : Place) (v : ℤ) → SameLength image (write image p v)
write_length image p v = write_of_length p.kind image p.at v

bit_length : (image : List ℕ) (a : Arg) (b : Bool) → SameLength image (put_bit image a b)
bit_length image a b = write_length image (place_of a) _

status_length : (at k : ℕ) (b : Bool) (image : List ℕ) → SameLength image (put_status at k b image)
status_length at k b image = write_of_length KBool image _ _

dint_length : (at : ℕ) (v : ℤ) (image : List ℕ) → SameLength image (put_dint at v image)
dint_length at v image = length-splice image at (signed_bytes w32 v)

-- one of two
either_length : (b : Bool) (image x y : List ℕ) → SameLength image x → SameLength image y → SameLength image (if b then x else y)
either_length b image x y h k = cond_both b x y (SameLength image) (λ e. h) (λ e. k)

-- ---- bits

bits_length : (op : Op) (args : List Arg) (on first : Bool) (flags : Flags) (image : List ℕ) → SameLength image (bits op args on first flags image).image
bits_length Xic args on first flags image = refl
bits_length Xio args on first flags image = refl
bits_length Ote args on first flags image = bit_length image (arg args 0) on
bits_length Otl args on first flags image = either_length on image _ image (bit_length image (arg args 0) true) refl
bits_length Otu args on first flags image = either_length on image _ image (bit_length image (arg args 0) false) refl
bits_length Ons args on first flags image = bit_length image (arg args 0) on
bits_length Osr args on first flags image = bit_length (put_bit image (arg args 1) _) (arg args 0) on ∙ bit_length image (arg args 1) _
bits_length Osf args true first flags image = bit_length (put_bit image (arg args 0) true) (arg args 1) false ∙ bit_length image (arg args 0) true
bits_length Osf args false first flags image = bit_length (put_bit image (arg args 1) (bit_value first flags image (arg args 0))) (arg args 0) false ∙ bit_length image (arg args 1) (bit_value first flags image (arg args 0))
bits_length Afi args on first flags image = refl
bits_length _ args on first flags image = refl

-- ---- timers

last_length : (at now : ℕ) (image : List ℕ) → SameLength image (put_last_tick at now image)
last_length at now image = dint_length (at + 12) (pos now) image

acc_length : (at : ℕ) (v : ℤ) (image : List ℕ) → SameLength image (put_acc at v image)
acc_length at v image = dint_length (at + 8) v image

ticks_length : (at now : ℕ) (image : List ℕ) → SameLength image (add_ticks at now image)
ticks_length at now image = acc_length at (accumulated image at now) image

two_status : (at j k : ℕ) (b c : Bool) (image : List ℕ) → SameLength image (put_status at j b (put_status at k c image))
two_status at j k b c image = status_length at j b (put_status at k c image) ∙ status_length at k c image

counted_on_length : (at now : ℕ) (image : List ℕ) → SameLength image (counted_on at now image)
counted_on_length at now image =
    either_length (not (status image at en_bit)) image _ _ (status_length at en_bit true image) (either_length (not (status image at dn_bit)) image _ image (ticks_length at now image) refl)

counted_off_length : (at now : ℕ) (image : List ℕ) → SameLength image (counted_off at now image)
counted_off_length at now image = either_length (status image at en_bit) image _ _ (status_length at en_bit false image) (ticks_length at now image)

done_off_length : (at : ℕ) (image : List ℕ) → SameLength image (with_done_off at image)
done_off_length at image = either_length (is_reached image at) image _ _ (two_status at dn_bit tt_bit false false image) (status_length at tt_bit true image)

-- an image, if there is one
abbrev SomeLength : List ℕ → Option (List ℕ) → Type 0
SomeLength image o = (after : List ℕ) → o ≡ Some after → SameLength image after

some_length : (image after : List ℕ) → SameLength image after → SomeLength image (Some after)
some_length image after h x e = subst (SameLength image) (cc e) h

none_length : (image : List ℕ) → SomeLength image None
none_length image x e = absurd (cc e)

on_length : (at now : ℕ) (image : List ℕ) → SomeLength image (count_on at now image)
on_length at now image =
    cond_both (has_negative image at) None _ (SomeLength image) (λ b. none_length image)
    (λ b. some_length image _ (two_status at dn_bit tt_bit _ _ (put_last_tick at now (counted_on at now image)) ∙ (last_length at now (counted_on at now image) ∙ counted_on_length at now image)))

off_length : (at now : ℕ) (image : List ℕ) → SomeLength image (count_off at now image)
off_length at now image =
    cond_both (not (status image at dn_bit)) _ _ (SomeLength image) (λ b. some_length image _ (two_status at en_bit tt_bit false false image))
    (λ b. cond_both (has_negative image at) None _ (SomeLength image) (λ c. none_length image)
    (λ c. some_length image _ (done_off_length at (put_last_tick at now (counted_off at now image)) ∙ (last_length at now (counted_off at now image) ∙ counted_off_length at now image))))

timer_length : (op : Op) (at : ℕ) (on : Bool) (now : ℕ) (image : List ℕ) → SomeLength image (timer op at on now image)
timer_length Ton at true now image = on_length at now image
timer_length Ton at false now image =
    some_length image _ (acc_length at (pos 0) (put_status at en_bit false (put_status at tt_bit false (put_status at dn_bit false image))) ∙ (two_status at en_bit tt_bit false false (put_status at dn_bit false image) ∙ status_length at dn_bit false image))
timer_length Rto at true now image = on_length at now image
timer_length Rto at false now image = some_length image _ (two_status at en_bit tt_bit false false image)
timer_length Tof at true now image =
    some_length image _ (last_length at now (put_acc at (pos 0) (put_status at en_bit true (put_status at tt_bit false (put_status at dn_bit true image))))
    ∙ (acc_length at (pos 0) (put_status at en_bit true (put_status at tt_bit false (put_status at dn_bit true image))) ∙ (two_status at en_bit tt_bit true false (put_status at dn_bit true image) ∙ status_length at dn_bit true image)))
timer_length Tof at false now image = off_length at now image
timer_length _ at on now image = some_length image image refl

-- ---- counters

up_length : (at : ℕ) (image : List ℕ) → SameLength image (one_up at image)
up_length at image =
    either_length (int_eq (acc image at) (greatest Dint)) image (put_status at ov_bit true (put_acc at (least Dint) image)) (put_acc at (acc image at +ℤ pos 1) image)
    (status_length at ov_bit true (put_acc at (least Dint) image) ∙ acc_length at (least Dint) image) (acc_length at (acc image at +ℤ pos 1) image)

down_length : (at : ℕ) (image : List ℕ) → SameLength image (one_down at image)
down_length at image =
    either_length (int_eq (acc image at) (least Dint)) image (put_status at un_bit true (put_acc at (greatest Dint) image)) (put_acc at (acc image at +ℤ negsuc 0) image)
    (status_length at un_bit true (put_acc at (greatest Dint) image) ∙ acc_length at (greatest Dint) image) (acc_length at (acc image at +ℤ negsuc 0) image)

done_length : (at : ℕ) (image : List ℕ) → SameLength image (with_done at image)
done_length at image = status_length at dn_bit _ image

counter_length : (op : Op) (at : ℕ) (on : Bool) (image : List ℕ) → SameLength image (counter op at on image)
counter_length Ctu at true image =
    done_length at (if status image at cu_bit then image else one_up at (put_status at cu_bit true image))
    ∙ either_length (status image at cu_bit) image image _ refl (up_length at (put_status at cu_bit true image) ∙ status_length at cu_bit true image)
counter_length Ctu at false image = done_length at (put_status at cu_bit false image) ∙ status_length at cu_bit false image
counter_length Ctd at true image =
    done_length at (if status image at cd_bit then image else one_down at (put_status at cd_bit true image))
    ∙ either_length (status image at cd_bit) image image _ refl (down_length at (put_status at cd_bit true image) ∙ status_length at cd_bit true image)
counter_length Ctd at false image = done_length at (put_status at cd_bit false image) ∙ status_length at cd_bit false image
counter_length _ at on image = refl

reset_length : (at : ℕ) (on : Bool) (image : List ℕ) → SameLength image (reset at on image)
reset_length at true image = dint_length at (pos 0) (put_acc at (pos 0) image) ∙ acc_length at (pos 0) image
reset_length at false image = refl

-- ---- rows

math_length : (op : Op) (args : List Arg) (image : List ℕ) → SameLength image (math op args image).image
math_length op args image = write_length image _ _

store_length : (image : List ℕ) (ps : List Place) (vs : List ℤ) → SameLength image (store_all image ps vs)
store_length image [] vs = refl
store_length image (p ∷ ps) [] = refl
store_length image (p ∷ ps) (v ∷ vs) = store_length (write image p v) ps vs ∙ write_length image p v

module _ (args : List Operand) (on : Bool) (now : ℕ) (first : Bool) (frames : List Frame) (flags : Flags) (image : List ℕ) where
  timer_row_length : (o : Option (List ℕ)) → SomeLength image o → SameLength image (timer_row args on now first frames flags image o).image
  timer_row_length (Some after) h = h after refl
  timer_row_length None h = refl

  copy_row_length : (o : Option Copying) → SameLength image (copy_row args on now first frames flags image o).image
  copy_row_length (Some c) = refl
  copy_row_length None = refl

  call_row_length : (bound : List Arg) → SameLength image (call_row args on now first frames flags image bound).image
  call_row_length bound = cond_both (nat_lt (length frames) MAX_FRAMES) _ _ (λ (r : Row). SameLength image r.image) (λ b. refl) (λ b. refl)

  store_row_length : (ps : List Place) (vs : List ℤ) (control : Control) → SameLength image (store_row args on now first frames flags image ps vs control).image
  store_row_length ps vs control = cond_both (nat_lt (length vs) (length ps)) _ _ (λ (r : Row). SameLength image r.image) (λ b. refl) (λ b. store_length image ps vs)

  control_length : (op : Op) (bound : List Arg) → SameLength image (program_control args on now first frames flags image op bound).image
  control_length Jsr bound = call_row_length bound
  control_length Sbr bound = store_row_length (map place_of bound) (inputs_handed frames) Nothing
  control_length Ret bound = store_row_length (returns_wanted frames) (map (value_of image) bound) Return
  control_length _ bound = refl

  family_length : (f : Family) (op : Op) (bound : List Arg) → SameLength image (family_row args on now first frames flags image f op bound).image
  family_length Bit op bound = bits_length op bound on first flags image
  family_length Timer op bound = timer_row_length _ (timer_length op (byte_of (arg bound 0)) on now image)
  family_length Counter op bound = counter_length op (byte_of (arg bound 0)) on image
  family_length Reset op bound = reset_length (byte_of (arg bound 0)) on image
  family_length Comparison op bound = refl
  family_length Arithmetic op bound = math_length op bound image
  family_length Copy op bound = copy_row_length (start_copy op bound image)
  family_length ProgramControl op bound = control_length op bound

  bound_length : (op : Op) (o : Option (List Arg)) → SameLength image (with_bound args on now first frames flags image op o).image
  bound_length op (Some bound) = family_length (family_of op) op bound
  bound_length op None = refl

  pub row_length : (op : Op) → SameLength image (row op args on now first frames flags image).image
  row_length op = cond_both (on || acts_when_false op) _ _ (λ (r : Row). SameLength image r.image) (λ b. bound_length op (bind image args)) (λ b. refl)

-- ---- a step

module _ (program : ProgramRungs) (position : Position) (image : List ℕ) (now : ℕ) (first : Bool) (flags : Flags) where
  by_control : (on : Bool) (im : List ℕ) (fl : Flags) (d : Control) (f : Frame) (outer : List Frame) → SameLength image im → SameLength image (after_row program position image now first flags (record { on = on; image = im; flags = fl; control = d }) f outer).image
  by_control on im fl Nothing f outer h = h
  by_control on im fl (Call n inputs returns) f outer h = h
  by_control on im fl Return f outer h = h
  by_control on im fl (Jump label) f outer h = h
  by_control on im fl ToggleZone f outer h = h
  by_control on im fl Up f outer h = h
  by_control on im fl Down f outer h = h
  by_control on im fl (TriggerTask t) f outer h = h
  by_control on im fl (StartCopy c) f outer h = h
  by_control on im fl MinorFault f outer h = h
  by_control on im fl (MajorFault code) f outer h = h

  by_frame : (f : Frame) (outer : List Frame) (rest : Tree Ins) → SameLength image (in_frame program position image now first flags f outer rest).image
  by_frame f outer (one i rest) =
      let r = row i.op i.args f.cursor.on now first position.frames flags image in
      by_control r.on r.image r.flags r.control (record f { cursor = record f.cursor { rest = rest; on = r.on } }) outer (row_length i.args f.cursor.on now first position.frames flags image i.op)
  by_frame f outer end = refl
  by_frame f outer (fork t legs rest) = refl

  by_frames : (fs : List Frame) → SameLength image (in_frames program position image now first flags fs).image
  by_frames [] = refl
  by_frames (f ∷ outer) = by_frame f outer f.cursor.rest

  by_copy : (o : Option Copying) → SameLength image (in_progress program position image now first flags o).image
  by_copy None = by_frames position.frames
  by_copy (Some c) = length-splice image c.target (element_bytes c.fill c image)

  pub step_length : SameLength image (advance program position image now first flags).image
  step_length = by_copy position.copy

-- ---- the prescan

three_status : (at i j k : ℕ) (b c d : Bool) (image : List ℕ) → SameLength image (put_status at i b (put_status at j c (put_status at k d image)))
three_status at i j k b c d image = status_length at i b (put_status at j c (put_status at k d image)) ∙ two_status at j k c d image

one_length : (op : Op) (args : List Arg) (image : List ℕ) → SameLength image (prescan_one op args image)
one_length Ote args image = bit_length image (arg args 0) false
one_length Ons args image = bit_length image (arg args 0) true
one_length Osr args image = bit_length (put_bit image (arg args 0) true) (arg args 1) false ∙ bit_length image (arg args 0) true
one_length Osf args image = bit_length (put_bit image (arg args 0) false) (arg args 1) false ∙ bit_length image (arg args 0) false
one_length Ton args image = acc_length (byte_of (arg args 0)) (pos 0) (put_status (byte_of (arg args 0)) en_bit false (put_status (byte_of (arg args 0)) tt_bit false (put_status (byte_of (arg args 0)) dn_bit false image))) ∙ three_status (byte_of (arg args 0)) en_bit tt_bit dn_bit false false false image
one_length Tof args image = acc_length (byte_of (arg args 0)) (pre image (byte_of (arg args 0))) (put_status (byte_of (arg args 0)) en_bit false (put_status (byte_of (arg args 0)) tt_bit false (put_status (byte_of (arg args 0)) dn_bit false image))) ∙ three_status (byte_of (arg args 0)) en_bit tt_bit dn_bit false false false image
one_length Rto args image = three_status (byte_of (arg args 0)) en_bit tt_bit dn_bit false false false image
one_length Ctu args image = status_length (byte_of (arg args 0)) cu_bit true image
one_length Ctd args image = status_length (byte_of (arg args 0)) cd_bit true image
one_length _ args image = refl

prescan_bound_length : (op : Op) (image : List ℕ) (o : Option (List Arg)) → SameLength image (prescan_bound op image o)
prescan_bound_length op image None = refl
prescan_bound_length op image (Some args) = one_length op args image

each_length : (is : List Ins) (image : List ℕ) → SameLength image (fold prescan_ins image is)
each_length [] image = refl
each_length (i ∷ is) image = each_length is (prescan_ins image i) ∙ prescan_bound_length i.op image (bind image i.args)

pub prescan_length : (program : ProgramRungs) (image : List ℕ) → SameLength image (prescan program image)
prescan_length program image = each_length (reached_instructions program) image

-- ---- a word

pub word_length : (image : List ℕ) (at : ℕ) (v : ℤ) → SameLength image (write_signed w32 image at v)
word_length image at v = length-splice image at (signed_bytes w32 v)
