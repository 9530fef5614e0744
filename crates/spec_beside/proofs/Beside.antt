-- A write leaves the bytes beside it; and operands that miss a byte miss it with their places worked out.
use Rattle.std.specs.Prelude.{unwrap_or}
use Rattle.std.specs.Int.{w8, w16, w32}
use Rattle.std.specs.List.{AllByRecursion as Each}
use Rattle.std.proofs.Common.{◌≡◌, ℕ, suc, ◌+◌, ◌/◌, inl, inr, Bool, true, false, if◌then◌else◌, List, [], ◌∷◌, length, ℤ, get_or, Option, Some, None, option_map, refl, ap, ◌∙◌, subst, arith, get_or-set_other}
use Rattle.spec_base.specs.declared.limits.TheConstants.{TIMER_BYTES, COUNTER_BYTES}
use Rattle.spec_base.proofs.Numbers.{one_on}
use Rattle.lgx_num.specs.declared.number.Kind.{Kind}
use Rattle.lgx_num.specs.declared.number.Kind.TheVariants.{Bool as KBool, Sint, Int, Dint}
use Rattle.lgx_num.specs.declared.place.Path.{Path}
use Rattle.lgx_num.specs.declared.place.Place.{Place}
use Rattle.lgx_num.specs.declared.place.Operand.{Operand}
use Rattle.lgx_num.specs.declared.place.Operand.TheVariants as operand
use Rattle.lgx_num.specs.Number.{signed_bytes, bytes_in}
use Rattle.lgx_num.specs.Image.{write, write_of, bit_of}
use Rattle.lgx_num.proofs.Images.{splice_before, splice_behind}
use Rattle.lgx_num.proofs.Subscripts.{subscripts_stay_in_range}
use Rattle.lgx_rung.specs.declared.ins.Ins.{Ins}
use Rattle.lgx_rung.specs.declared.operands.OperandKind.{OperandKind}
use Rattle.lgx_rung.specs.OperandTable.{fixed_kinds, NoMore, further, operand_kinds}
use Rattle.lgx_rung.proofs.KindCounts.{exactly_fixed}
use Rattle.spec_scan.specs.declared.bound.Arg.{Arg}
use Rattle.spec_scan.specs.declared.bound.Arg.TheVariants as bound
use Rattle.spec_scan.specs.Arguments.{arg, bind, bind_one, cell_at, timer_at, counter_at, block_at, place_of}
use Rattle.spec_scan.specs.Fits.{operand_at, AllFit, FitSome, number_told, OperandsFit, IsPlace}
use Rattle.spec_scan.proofs.KeptKinds.{bound_at}
use Rattle.spec_uses.specs.Written.{is_written, those_of, kinds_of}
use Rattle.spec_beside.specs.Misses.{IsBeside, PathMisses, Misses, PlaceMisses, WritesBeside}

-- ---- a write

pub written_beside : (k : Kind) (image : List ℕ) (at : ℕ) (v : ℤ) (b : ℕ) → IsBeside (at / 8) (at / 8 + bytes_in k) b → get_or (write_of k image at v) b 0 ≡ get_or image b 0
written_beside KBool image at v b (inl before) = get_or-set_other image (at / 8) b _ 0 (omega arith)
written_beside KBool image at v b (inr after) = get_or-set_other image (at / 8) b _ 0 (omega arith)
written_beside Sint image at v b (inl before) = splice_before image (at / 8) (signed_bytes w8 v) b before
written_beside Sint image at v b (inr after) = splice_behind image (at / 8) (signed_bytes w8 v) b after
written_beside Int image at v b (inl before) = splice_before image (at / 8) (signed_bytes w16 v) b before
written_beside Int image at v b (inr after) = splice_behind image (at / 8) (signed_bytes w16 v) b after
written_beside Dint image at v b (inl before) = splice_before image (at / 8) (signed_bytes w32 v) b before
written_beside Dint image at v b (inr after) = splice_behind image (at / 8) (signed_bytes w32 v) b after

pub write_beside : (image : List ℕ) (p : Place) (v : ℤ) (b : ℕ) → PlaceMisses b p → get_or (write image p v) b 0 ≡ get_or image b 0
write_beside image p v b h = written_beside p.kind image p.at v b h

-- ---- an operand with its place worked out

abbrev pub ArgMisses : ℕ → Arg → Type 0
ArgMisses b (bound.Cell p) = PlaceMisses b p
ArgMisses b (bound.Timer at) = IsBeside at (at + TIMER_BYTES) b
ArgMisses b (bound.Counter at) = IsBeside at (at + COUNTER_BYTES) b
ArgMisses b (bound.Block at size stop) = IsBeside at stop b
ArgMisses b _ = Unit {0}

place_found : (f : ℕ → Arg) (o : Option ℕ) (a : Arg) → option_map f o ≡ Some a → (at : ℕ) × (o ≡ Some at) × (f at ≡ a)
place_found f (Some at) a is = (at, refl, cc)
place_found f None a is = absurd (cc is)

path_kept : (image : List ℕ) (p : Path) (f : ℕ → Arg) (stop : ℕ → ℕ) (a : Arg) (b : ℕ) → option_map f (bit_of image p) ≡ Some a → PathMisses b p stop → ((at : ℕ) → IsBeside (at / 8) (stop (at / 8)) b → ArgMisses b (f at)) → ArgMisses b a
path_kept image p f stop a b found h make =
    let s = place_found f (bit_of image p) a found in
    subst (ArgMisses b) s.2 (make s.0 (h s.0 (subscripts_stay_in_range image p s.0 s.1)))

pub misses_kept : (image : List ℕ) (o : Operand) (a : Arg) (b : ℕ) → bind_one image o ≡ Some a → Misses b o → ArgMisses b a
misses_kept image (operand.Number n) a b found h =
    let is : bound.Number n ≡ a = cc in subst (ArgMisses b) is tt
misses_kept image (operand.Cell p) a b found h = path_kept image p (cell_at p.kind) (λ at. at + bytes_in p.kind) a b found h (λ at k. k)
misses_kept image (operand.Timer p) a b found h = path_kept image p timer_at (λ at. at + TIMER_BYTES) a b found h (λ at k. k)
misses_kept image (operand.Counter p) a b found h = path_kept image p counter_at (λ at. at + COUNTER_BYTES) a b found h (λ at k. k)
misses_kept image (operand.Block c) a b found h = path_kept image c.path (block_at c) (λ at. c.stop) a b found h (λ at k. k)
misses_kept image (operand.FlagOf f) a b found h =
    let is : bound.FlagOf f ≡ a = cc in subst (ArgMisses b) is tt
misses_kept image _ a b found h =
    let is : bound.Other ≡ a = cc in subst (ArgMisses b) is tt

pub place_misses : (a : Arg) (b : ℕ) → IsPlace a → ArgMisses b a → PlaceMisses b (place_of a)
place_misses (bound.Cell p) b is h = h
place_misses _ b is h = absurd is

-- ---- those that are written

-- of operands of these kinds, those that are written; from number i on
abbrev pub IfWritten : Bool → Type 0 → Type 0
IfWritten true P = P
IfWritten false P = Unit {0}

abbrev pub ArgsMissFrom : ℕ → ℕ → List OperandKind → List Arg → Type 0
ArgsMissFrom b i [] args = Unit {0}
ArgsMissFrom b i (kind ∷ kinds) args = IfWritten (is_written kind) (ArgMisses b (arg args i)) × ArgsMissFrom b (i + 1) kinds args

miss_from : (image : List ℕ) (kinds : List OperandKind) (operands : List Operand) (args : List Arg) (b i : ℕ) → ((j : ℕ) → bind_one image (operand_at operands j) ≡ Some (arg args (i + j))) → AllFit kinds operands → Each (Misses b) (those_of is_written kinds operands) → ArgsMissFrom b i kinds args
miss_from image [] operands args b i found fit h = tt
miss_from image (kind ∷ kinds) [] args b i found fit h = absurd fit
miss_from image (kind ∷ kinds) (o ∷ os) args b i found fit h = go (is_written kind) h (λ k. miss_from image kinds os args b (i + 1) (λ j. found (suc j) ∙ ap (λ (n : ℕ). Some (arg args n)) (one_on i j)) fit.1 k)
  where
    here : bind_one image o ≡ Some (arg args i)
    here = found 0 ∙ ap (λ (n : ℕ). Some (arg args n)) (omega arith)

    go : (w : Bool) → Each (Misses b) (if w then o ∷ those_of is_written kinds os else those_of is_written kinds os) → (Each (Misses b) (those_of is_written kinds os) → ArgsMissFrom b (i + 1) kinds args) → IfWritten w (ArgMisses b (arg args i)) × ArgsMissFrom b (i + 1) kinds args
    go true k rest = (misses_kept image o (arg args i) b here k.0, rest k.1)
    go false k rest = (tt, rest k)

-- the kinds of an instruction that has no operands but those that it always has
pub own_kinds : (i : Ins) → further i.op ≡ NoMore → OperandsFit i.op i.args → (kinds_of i ≡ fixed_kinds i.op) × AllFit (fixed_kinds i.op) i.args
own_kinds i no_more fit = go (operand_kinds i.op (number_told (operand_at i.args 1)) (length i.args)) refl fit
  where
    go : (kinds : Option (List OperandKind)) → operand_kinds i.op (number_told (operand_at i.args 1)) (length i.args) ≡ kinds → FitSome kinds i.args → (unwrap_or kinds [] ≡ fixed_kinds i.op) × AllFit (fixed_kinds i.op) i.args
    go (Some kinds) e h =
        let same : kinds ≡ fixed_kinds i.op = exactly_fixed i.op (number_told (operand_at i.args 1)) (length i.args) kinds no_more e in
        (same, subst (λ (ks : List OperandKind). AllFit ks i.args) same h)
    go None e h = absurd h

pub args_miss : (image : List ℕ) (i : Ins) (args : List Arg) (b : ℕ) → further i.op ≡ NoMore → OperandsFit i.op i.args → bind image i.args ≡ Some args → WritesBeside b i → ArgsMissFrom b 0 (fixed_kinds i.op) args
args_miss image i args b no_more fit found h =
    let k = own_kinds i no_more fit in
    miss_from image (fixed_kinds i.op) i.args args b 0 (λ j. bound_at image i.args args j found ∙ ap (λ (n : ℕ). Some (arg args n)) (let z : j ≡ 0 + j = omega arith in z)) k.1
    (subst (λ (ks : List OperandKind). Each (Misses b) (those_of is_written ks i.args)) k.0 h)
