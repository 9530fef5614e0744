-- A copy that an instruction starts writes beside every byte that the instruction's written operands miss.
use Rattle.std.specs.Prelude.{⊤, nat_eq, take}
use Rattle.std.specs.Int.{w32, to_le_bytes}
use Rattle.std.proofs.Common.{◌≡◌, ℕ, zero, suc, ◌+◌, ◌*◌, ◌/◌, ◌-◌, ◌<◌, ◌≤◌, inl, inr, false, List, [], ◌∷◌, length, ℤ, get_or, Option, Some, None, refl, ap, subst, arith}
use Rattle.std.proofs.lemmas.Bool.{cond_both, eqb-false}
use Rattle.std.proofs.Math.Nat.{div-le_self, div-mul-le_self, mul-le-mul_right, suc-mul}
use Rattle.lgx_num.specs.Image.{piece}
use Rattle.lgx_num.specs.Number.{low_bits}
use Rattle.lgx_num.proofs.Images.{splice_before, splice_behind}
use Rattle.lgx_rung.specs.declared.op.Op.{Op}
use Rattle.lgx_rung.specs.declared.op.Op.TheVariants.{Cop, Cps, Fll}
use Rattle.lgx_rung.specs.declared.operands.Family.TheVariants.{Copy}
use Rattle.lgx_rung.specs.OperandTable.{fixed_kinds, family_of, further, NoMore}
use Rattle.spec_scan.specs.declared.bound.Arg.{Arg}
use Rattle.spec_scan.specs.declared.bound.Arg.TheVariants.{Block}
use Rattle.spec_scan.specs.declared.bound.Copying.{Copying}
use Rattle.spec_scan.specs.Arguments.{arg, byte_of, room_of, size_of}
use Rattle.spec_scan.specs.Copies.{copy_element, copy_of, element_bytes, elements, elements_in, start_copy}
use Rattle.spec_scan.specs.Instructions.{Control, StartCopy}
use Rattle.spec_scan.proofs.RowControls.{IsOther, row_asks}
use Rattle.spec_beside.specs.Copies.{CopyBeside, CopiesStartBeside, CopiesGoOnBeside, ElementsWriteBeside}
use Rattle.spec_beside.specs.Misses.{IsBeside}
use Rattle.spec_beside.proofs.Beside.{ArgMisses, ArgsMissFrom, args_miss}

-- ---- an element

abbrev Stays : List ℕ → List ℕ → ℕ → Type 0
Stays after image b = get_or after b 0 ≡ get_or image b 0

piece_length : (image : List ℕ) (at n : ℕ) → length (piece image at n) ≡ n
piece_length image at zero = refl
piece_length image at (suc n) = ap suc (piece_length image (at + 1) n)

take_length : (n : ℕ) (xs : List ℕ) → length (take n xs) ≤ n
take_length zero xs = omega arith
take_length (suc n) [] = omega arith
take_length (suc n) (x ∷ xs) = omega (arith, take_length n xs)

element_length : (fill : Option ℤ) (c : Copying) (image : List ℕ) → length (element_bytes fill c image) ≤ c.size
element_length (Some v) c image = take_length c.size (to_le_bytes w32 (low_bits 32 v))
element_length None c image = omega (arith, piece_length image c.source c.size)

-- one element is a part of what is left
one_of : (left size : ℕ) → 0 < left → size ≤ left * size
one_of zero size h = absurd (omega arith)
one_of (suc n) size h = omega (arith, suc-mul n size)

pub elements_keep : ElementsWriteBeside
elements_keep c image b h = go h.target
  where
    go : IsBeside c.target (c.target + c.left * c.size) b → Stays (copy_element c image) image b
    go (inl before) = splice_before image c.target (element_bytes c.fill c image) b before
    go (inr after) = splice_behind image c.target (element_bytes c.fill c image) b (omega (arith, element_length c.fill c image, one_of c.left c.size h.some))

-- ---- one element less

one_less : (left size : ℕ) → 1 < left → size + (left - 1) * size ≡ left * size
one_less zero size h = absurd (omega arith)
one_less (suc n) size h =
    let k : suc n - 1 ≡ n = omega arith in
    omega (arith, suc-mul n size, ap (λ (m : ℕ). m * size) k)

pub copies_go_on : CopiesGoOnBeside
copies_go_on c b h more = record { some = omega arith; target = go h.target }
  where
    go : IsBeside c.target (c.target + c.left * c.size) b → IsBeside (c.target + c.size) (c.target + c.size + (c.left - 1) * c.size) b
    go (inl before) = inl (omega arith)
    go (inr after) = inr (omega (arith, one_less c.left c.size more))

-- ---- the start

whole_elements : (left room size : ℕ) → left ≤ room / size → left * size ≤ room
whole_elements left room size few =
    let most : left * size ≤ room / size * size = mul-le-mul_right size few in
    let whole : room / size * size ≤ room = div-mul-le_self room size in
    omega (arith, most, whole)

-- so many whole elements lie in the operand's tag from its first byte on
target_beside : (a : Arg) (b left : ℕ) → ArgMisses b a → 0 < left → left ≤ room_of a / size_of a → IsBeside (byte_of a) (byte_of a + left * size_of a) b
target_beside (Block at size stop) b left h some few = go h
  where
    go : IsBeside at stop b → IsBeside at (at + left * size) b
    go (inl before) = inl before
    go (inr after) = inr (omega (arith, whole_elements left (stop - at) size few, div-le_self (stop - at) size))
target_beside _ b left h some few = absurd (omega arith)

few_elements : (op : Op) (args : List Arg) (image : List ℕ) → elements op args image ≤ elements_in args (arg args 1)
few_elements Fll args image = omega arith
few_elements _ args image = omega arith

abbrev pub StartsBeside : ℕ → Control → Type 0
StartsBeside b (StartCopy c) = CopyBeside b c
StartsBeside b _ = ⊤

other_starts : (b : ℕ) (d : Control) → IsOther d → StartsBeside b d
other_starts b (StartCopy c) h = absurd h
other_starts b _ h = tt

-- the second operand of a copy is its target
target_misses : (op : Op) (bound : List Arg) (b : ℕ) → family_of op ≡ Copy → (further op ≡ NoMore → ArgsMissFrom b 0 (fixed_kinds op) bound) → ArgMisses b (arg bound 1)
target_misses Cop bound b is h = (h refl).1.0
target_misses Cps bound b is h = (h refl).1.0
target_misses Fll bound b is h = (h refl).1.0
target_misses _ bound b is h = absurd (cc is)

copy_starts : (op : Op) (bound : List Arg) (image : List ℕ) (b : ℕ) → ArgMisses b (arg bound 1) → (c : Copying) → start_copy op bound image ≡ Some c → CopyBeside b c
copy_starts op bound image b h =
    let n = elements op bound image in
    cond_both (nat_eq n 0) None (Some (copy_of op bound image n)) (λ (o : Option Copying). (c : Copying) → o ≡ Some c → CopyBeside b c) (λ e c is. absurd (cc is))
    (λ e c is.
    let ne : n ≡ 0 → ⊥ = eqb-false n 0 e in
    let some : 0 < n = omega arith in
    let beside : CopyBeside b (copy_of op bound image n) = record { some = some; target = target_beside (arg bound 1) b n h some (few_elements op bound image) } in
    subst (CopyBeside b) (cc is) beside)

pub copies_start : CopiesStartBeside
copies_start i on now first frames flags image b c fit h is =
    subst (StartsBeside b) is
    (row_asks (StartsBeside b) (other_starts b) i.args on now first frames flags image i.op (λ bound found. record {
      call = λ called. tt;
      trigger = λ triggered. tt;
      copy = λ copies. copy_starts i.op bound image b (target_misses i.op bound b copies (λ no_more. args_miss image i bound b no_more fit found h));
    }))
