-- What the row of an instruction asks for is what the instruction shows.
use Rattle.std.proofs.Common.{◌≡◌, ℕ, ◌/◌, ◌<◌, ◌≤◌, Bool, true, false, if◌then◌else◌, List, [], ◌∷◌, length, ℤ, pos, negsuc, Option, Some, None, refl, sym, ◌∙◌, ap, subst, arith}
use Rattle.std.specs.Prelude.{not, ◌&&◌, min, nat_lt, nat_le, nat_eq, int_lt, ⊤}
use Rattle.std.proofs.lemmas.Bool.{ltb-true, ltb-false, lt-ltb, le-ltb, leb-true, leb-false, eq-eqb, ne_eqb}
use Rattle.std.proofs.lemmas.Nat.{le-div, div_below}
use Rattle.std.proofs.Math.Nat.{div-zero}
use Rattle.lgx_num.specs.declared.place.Flags.{Flags}
use Rattle.lgx_num.specs.declared.place.Operand.{Operand}
use Rattle.lgx_num.specs.declared.place.Operand.TheVariants as operand
use Rattle.lgx_rung.specs.declared.op.Op.{Op}
use Rattle.lgx_rung.specs.declared.op.Op.TheVariants.{Cop, Cps, Fll, Jsr, Ret, Tnd, Jmp, Mcr, Uid, Uie, Event}
use Rattle.lgx_rung.specs.declared.operands.OperandKind.{OperandKind}
use Rattle.lgx_rung.specs.declared.operands.OperandKind.TheVariants.{EventTask}
use Rattle.lgx_rung.specs.OperandTable.{fixed_kinds, NoMore, further, operand_kinds}
use Rattle.lgx_rung.proofs.KindCounts.{exactly_fixed}
use Rattle.spec_scan.specs.declared.bound.Arg.{Arg}
use Rattle.spec_scan.specs.Arguments.{bind, arg, value_of, room_of, size_of}
use Rattle.spec_scan.specs.Copies.{positive, elements, is_sync, copy_of, start_copy}
use Rattle.spec_scan.specs.Fits.{operand_at, AllFit, FitSome, number_told, OperandsFit}
use Rattle.spec_scan.specs.Instructions.{Control, Up, Down, TriggerTask, StartCopy, row, copy_row, executed, with_bound}
use Rattle.spec_scan.specs.Position.{Frame}
use Rattle.spec_machine.specs.declared.answer.Mark.{Mark}
use Rattle.spec_machine.specs.declared.answer.Mark.TheVariants as mark
use Rattle.spec_laws.proofs.RowAsks.{Own, row_asks_own}
use Rattle.spec_laws.specs.Marks.{has_room, asks_element, has_element, copy_shown, shown_if}

-- the mark that shows what a row asks for
abbrev pub mark_for : Control → Mark
mark_for Up = mark.Up
mark_for Down = mark.Down
mark_for (TriggerTask t) = mark.Trigger t
mark_for (StartCopy c) = mark.CopyStart c.sync
mark_for _ = mark.Plain

-- ---- operands that are all there

-- an instruction that has no others has its own
exactly : (op : Op) (args : List Operand) → further op ≡ NoMore → OperandsFit op args → AllFit (fixed_kinds op) args
exactly op args no_more h = go (operand_kinds op (number_told (operand_at args 1)) (length args)) refl h
  where
    go : (kinds : Option (List OperandKind)) → operand_kinds op (number_told (operand_at args 1)) (length args) ≡ kinds → FitSome kinds args → AllFit (fixed_kinds op) args
    go (Some kinds) e fit = subst (λ (ks : List OperandKind). AllFit ks args) (exactly_fixed op (number_told (operand_at args 1)) (length args) kinds no_more e) fit
    go None e fit = absurd fit

no_operands : (args : List Operand) → AllFit [] args → args ≡ []
no_operands [] h = refl
no_operands (o ∷ os) h = absurd h

one_task : (args : List Operand) → AllFit (EventTask ∷ []) args → (t : ℕ) × (args ≡ operand.Task t ∷ [])
one_task [] h = absurd h
one_task (operand.Task t ∷ os) h = (t, ap (λ (xs : List Operand). operand.Task t ∷ xs) (no_operands os h.1))
one_task (_ ∷ os) h = absurd h.0

-- ---- an element to copy

min_some : (x y : ℕ) → nat_lt 0 (min x y) ≡ (nat_lt 0 x && nat_lt 0 y)
min_some x y = go (nat_lt 0 x) (nat_lt 0 y) refl refl
  where
    go : (p q : Bool) → nat_lt 0 x ≡ p → nat_lt 0 y ≡ q → nat_lt 0 (min x y) ≡ (p && q)
    go true true a b = lt-ltb 0 (min x y) (let l = ltb-true 0 x a in let m = ltb-true 0 y b in omega arith)
    go true false a b = le-ltb 0 (min x y) (let m = ltb-false 0 y b in omega arith)
    go false q a b = le-ltb 0 (min x y) (let l = ltb-false 0 x a in omega arith)

none_of_none : (room size : ℕ) → size ≡ 0 → room / size ≡ 0
none_of_none room size e = ap (λ n. room / n) e ∙ div-zero room

room_some : (room size : ℕ) → nat_lt 0 (room / size) ≡ (nat_lt 0 size && nat_le size room)
room_some room size = go (nat_lt 0 size) (nat_le size room) refl refl
  where
    go : (p q : Bool) → nat_lt 0 size ≡ p → nat_le size room ≡ q → nat_lt 0 (room / size) ≡ (p && q)
    go true true a b =
        let l = ltb-true 0 size a in
        let m = leb-true size room b in
        let k : 1 ≤ room / size = le-div 1 room size l (omega arith) in lt-ltb 0 (room / size) k
    go true false a b =
        let l = ltb-true 0 size a in
        let m = leb-false size room b in
        let k : room / size < 1 = div_below room size 1 l (omega arith) in le-ltb 0 (room / size) (omega arith)
    go false q a b =
        let l = ltb-false 0 size a in
        let e : room / size ≡ 0 = none_of_none room size (omega arith) in le-ltb 0 (room / size) (omega arith)

positive_some : (v : ℤ) → nat_lt 0 (positive v) ≡ int_lt (pos 0) v
positive_some (pos n) = refl
positive_some (negsuc n) = refl

none_not_some : (n : ℕ) → nat_eq n 0 ≡ not (nat_lt 0 n)
none_not_some n = go (nat_lt 0 n) refl
  where
    go : (some : Bool) → nat_lt 0 n ≡ some → nat_eq n 0 ≡ not some
    go true e = let l = ltb-true 0 n e in ne_eqb n 0 (λ k. absurd (omega arith))
    go false e = let l = ltb-false 0 n e in eq-eqb n 0 (omega arith)

asked_some : (args : List Arg) (image : List ℕ) → nat_lt 0 (min (positive (value_of image (arg args 2))) (room_of (arg args 1) / size_of (arg args 1))) ≡ asks_element args image
asked_some args image =
    min_some (positive (value_of image (arg args 2))) (room_of (arg args 1) / size_of (arg args 1))
    ∙ (ap (λ (b : Bool). b && nat_lt 0 (room_of (arg args 1) / size_of (arg args 1))) (positive_some (value_of image (arg args 2)))
    ∙ ap (λ (b : Bool). int_lt (pos 0) (value_of image (arg args 2)) && b) (room_some (room_of (arg args 1)) (size_of (arg args 1))))

both_some : (args : List Arg) (image : List ℕ) → nat_lt 0 (min (min (positive (value_of image (arg args 2))) (room_of (arg args 1) / size_of (arg args 1))) (room_of (arg args 0) / size_of (arg args 1))) ≡ (asks_element args image && has_room (size_of (arg args 1)) (arg args 0))
both_some args image =
    min_some (min (positive (value_of image (arg args 2))) (room_of (arg args 1) / size_of (arg args 1))) (room_of (arg args 0) / size_of (arg args 1))
    ∙ (ap (λ (b : Bool). b && nat_lt 0 (room_of (arg args 0) / size_of (arg args 1))) (asked_some args image)
    ∙ ap (λ (b : Bool). asks_element args image && b) (room_some (room_of (arg args 0)) (size_of (arg args 1))))

-- ---- rows

module _ (args : List Operand) (now : ℕ) (first : Bool) (frames : List Frame) (flags : Flags) (image : List ℕ) where
  -- an instruction that is no region's, no trigger and no copy
  abbrev IsQuiet : Op → Type 0
  IsQuiet Uid = ⊥
  IsQuiet Uie = ⊥
  IsQuiet Event = ⊥
  IsQuiet Cop = ⊥
  IsQuiet Cps = ⊥
  IsQuiet Fll = ⊥
  IsQuiet _ = ⊤

  abbrev IsPlain : Control → Type 0
  IsPlain d = mark_for d ≡ mark.Plain

  quiet_own : (op : Op) (on : Bool) → IsQuiet op → Own IsPlain refl refl (λ code. refl) args on now first frames flags image op
  quiet_own Jsr on q = λ bound. refl
  quiet_own Ret on q = refl
  quiet_own Tnd on q = refl
  quiet_own Jmp on q = refl
  quiet_own Mcr on q = refl
  quiet_own Uid on q = absurd q
  quiet_own Uie on q = absurd q
  quiet_own Event on q = absurd q
  quiet_own Cop on q = absurd q
  quiet_own Cps on q = absurd q
  quiet_own Fll on q = absurd q
  quiet_own _ on q = tt

  quiet_row : (op : Op) (on : Bool) → IsQuiet op → mark_for (row op args on now first frames flags image).control ≡ mark.Plain
  quiet_row op on q = row_asks_own IsPlain refl refl (λ code. refl) args on now first frames flags image op (λ acts. quiet_own op on q)

  -- ---- copies

  abbrev copy_bound : Op → List Arg → Mark
  copy_bound op bound = mark_for (copy_row args true now first frames flags image (start_copy op bound image)).control

  by_count : (op : Op) (bound : List Arg) (some : Bool) → nat_lt 0 (elements op bound image) ≡ some → copy_bound op bound ≡ (if some then mark.CopyStart (is_sync op) else mark.Plain)
  by_count op bound some e =
      ap (λ (b : Bool). mark_for (copy_row args true now first frames flags image (if b then None else Some (copy_of op bound image (elements op bound image)))).control) (none_not_some (elements op bound image) ∙ ap not e) ∙ go some
    where
      go : (b : Bool) → mark_for (copy_row args true now first frames flags image (if not b then None else Some (copy_of op bound image (elements op bound image)))).control ≡ (if b then mark.CopyStart (is_sync op) else mark.Plain)
      go true = refl
      go false = refl

  by_copy : (op : Op) (sync : Bool) → ((bound : List Arg) → mark_for (executed args true now first frames flags image op bound).control ≡ copy_bound op bound) → ((bound : List Arg) → nat_lt 0 (elements op bound image) ≡ has_element op bound image) → is_sync op ≡ sync → (o : Option (List Arg)) → mark_for (with_bound args true now first frames flags image op o).control ≡ copy_shown sync op image o
  by_copy op sync is count kind None = refl
  by_copy op sync is count kind (Some bound) =
      is bound ∙ (by_count op bound (has_element op bound image) (count bound) ∙ ap (λ (b : Bool). if has_element op bound image then mark.CopyStart b else mark.Plain) kind)

  -- ---- all instructions

  pub row_shown : (op : Op) (on : Bool) → OperandsFit op args → mark_for (row op args on now first frames flags image).control ≡ shown_if on op args image
  row_shown Uid true fit = subst (λ (os : List Operand). mark_for (row Uid os true now first frames flags image).control ≡ mark.Up) (sym (no_operands args (exactly Uid args refl fit))) refl
  row_shown Uie true fit = subst (λ (os : List Operand). mark_for (row Uie os true now first frames flags image).control ≡ mark.Down) (sym (no_operands args (exactly Uie args refl fit))) refl
  row_shown Event true fit =
      let t = one_task args (exactly Event args refl fit) in
      subst (λ (os : List Operand). mark_for (row Event os true now first frames flags image).control ≡ shown_if true Event os image) (sym t.1) refl
  row_shown Cop true fit = by_copy Cop false (λ bound. refl) (λ bound. both_some bound image) refl (bind image args)
  row_shown Cps true fit = by_copy Cps true (λ bound. refl) (λ bound. both_some bound image) refl (bind image args)
  row_shown Fll true fit = by_copy Fll false (λ bound. refl) (λ bound. asked_some bound image) refl (bind image args)
  row_shown Uid false fit = refl
  row_shown Uie false fit = refl
  row_shown Event false fit = refl
  row_shown Cop false fit = refl
  row_shown Cps false fit = refl
  row_shown Fll false fit = refl
  row_shown op true fit = quiet_row op true tt
  row_shown op false fit = quiet_row op false tt
