-- Members, elements and bits lie within what they are of.
use Rattle.std.specs.Prelude.{◌≡◌, ℕ, zero, suc, ◌+◌, ◌*◌, ◌%◌, ◌<◌, ◌≤◌, List, [], ◌∷◌, slice_get, slice_index, Option, Some, None, option_map, unwrap_or, find, refl}
use Rattle.lgx_num.specs.Name.{same}
use Rattle.std.proofs.Common.{subst, arith}
use Rattle.std.proofs.Math.Nat.{mul-le-mul_right}
use Rattle.lgx_num.specs.Image.{IsByteAligned}
use Rattle.spec_language.specs.declared.types.Base.{Base}
use Rattle.spec_language.specs.declared.types.Base.TheVariants.{Bool as OneBit, Sint, Int, Dint, Timer, Counter, User}
use Rattle.spec_language.specs.declared.types.TypeDecl.{TypeDecl}
use Rattle.spec_language.specs.declared.types.MemberDecl.{MemberDecl}
use Rattle.spec_language.specs.declared.types.Member.{Member}
use Rattle.spec_language.specs.Layout.{looked_up, type_of, round_up, alignment_of, size_in, begin_after, placed_from, end_from, structure_in, sizes, size_of, members, member, single}
use Rattle.spec_language.specs.Resolution.{integer_bits, kind_of, stride}
use Rattle.std.specs.List.{AllByRecursion as Each}
use Rattle.spec_language.specs.LayoutLaws.{IsEvenOf, HasBytes, IsSoundType, SoundTypes}
use Rattle.spec_language.specs.ResolutionLaws.{width, EndsBy}
use Rattle.spec_base.proofs.Lists.{each_map, each_find, each_get, get_mapped}

-- ---- sizes

-- a type's bits are in its bytes
pub width_of : (types : List TypeDecl) (base : Base) (dim : ℕ) → IsEvenOf base dim → width types (record { base = base; dim = dim }) ≤ 8 * size_of types (record { base = base; dim = dim })
width_of types OneBit zero e = omega arith
width_of types OneBit (suc n) e = omega arith
width_of types Sint zero e = omega arith
width_of types Sint (suc n) e = omega arith
width_of types Int zero e = omega arith
width_of types Int (suc n) e = omega arith
width_of types Dint zero e = omega arith
width_of types Dint (suc n) e = omega arith
width_of types Timer zero e = omega arith
width_of types Timer (suc n) e = omega arith
width_of types Counter zero e = omega arith
width_of types Counter (suc n) e = omega arith
width_of types (User i) zero e = omega arith
width_of types (User i) (suc n) e = omega arith

-- a number of whole strides on
pub begins_on : (types : List TypeDecl) (base : Base) (at n : ℕ) → IsByteAligned (kind_of base) at → IsByteAligned (kind_of base) (at + n * stride types base)
begins_on types OneBit at n p = tt
begins_on types Sint at n p = omega arith
begins_on types Int at n p = omega arith
begins_on types Dint at n p = omega arith
begins_on types Timer at n p = omega arith
begins_on types Counter at n p = omega arith
begins_on types (User i) at n p = omega arith

-- whole bytes on from a byte
pub begins_bytes : (base : Base) (at n : ℕ) → at % 8 ≡ 0 → IsByteAligned (kind_of base) (at + 8 * n)
begins_bytes OneBit at n p = tt
begins_bytes Sint at n p = omega arith
begins_bytes Int at n p = omega arith
begins_bytes Dint at n p = omega arith
begins_bytes Timer at n p = omega arith
begins_bytes Counter at n p = omega arith
begins_bytes (User i) at n p = omega arith

-- ---- elements and bits

pub element_fits : (types : List TypeDecl) (base : Base) (dim n stop at : ℕ) → n < dim → EndsBy types (record { base = base; dim = dim }) stop at → EndsBy types (single base) stop (at + n * stride types base)
element_fits types base zero n stop at h p = absurd (omega arith)
element_fits types base (suc m) n stop at h p = (begins_on types base at n p.0, omega (arith, mul-le-mul_right {m = suc n} {n = suc m} (stride types base) h, p.1))

pub bit_fits : (types : List TypeDecl) (base : Base) (n stop at : ℕ) → n < integer_bits base → EndsBy types (single base) stop at → EndsBy types (single OneBit) stop (at + n)
bit_fits types OneBit n stop at h p = absurd (omega arith)
bit_fits types Sint n stop at h p = (tt, omega (arith, p.1))
bit_fits types Int n stop at h p = (tt, omega (arith, p.1))
bit_fits types Dint n stop at h p = (tt, omega (arith, p.1))
bit_fits types Timer n stop at h p = absurd (omega arith)
bit_fits types Counter n stop at h p = absurd (omega arith)
bit_fits types (User i) n stop at h p = absurd (omega arith)

-- ---- members

-- what is asked of a member at a bit of a structure
abbrev Within : List TypeDecl → ℕ → Member → Type 0
Within types size m = (m.at + width types m.of ≤ size) × HasBytes types m.of × ((at : ℕ) → at % 8 ≡ 0 → IsByteAligned (kind_of m.of.base) (at + m.at))

pub rounded : (types : List TypeDecl) (base : Base) (dim at : ℕ) → at ≤ round_up (alignment_of base dim) at
rounded types OneBit zero at = omega arith
rounded types OneBit (suc n) at = omega arith
rounded types Sint dim at = omega arith
rounded types Int dim at = omega arith
rounded types Dint dim at = omega arith
rounded types Timer dim at = omega arith
rounded types Counter dim at = omega arith
rounded types (User i) dim at = omega arith

pub end_grows : (types : List TypeDecl) (ss : List ℕ) (at : ℕ) (ms : List MemberDecl) → at ≤ end_from types ss at ms
end_grows types ss at [] = omega arith
end_grows types ss at (m ∷ ms) =
    let of = type_of types m in
    omega (arith, rounded types of.base of.dim at, end_grows types ss (begin_after at of + size_in ss of) ms)

-- members in order end within the structure that they are of
pub placed_within : (types : List TypeDecl) (at : ℕ) (ms : List MemberDecl) → Each (λ m. IsSoundType types (type_of types m)) ms → Each (λ e. Within types (8 * end_from types (sizes types) at ms) e.1) (placed_from types (sizes types) at ms)
placed_within types at [] s = tt
placed_within types at (m ∷ ms) s =
    let of = type_of types m in
    let begin = begin_after at of in
    ((omega (arith, width_of types of.base of.dim s.0.0, end_grows types (sizes types) (begin + size_of types of) ms), s.0.1, λ a p. begins_bytes of.base a begin p), placed_within types (begin + size_of types of) ms s.1)

-- members of a structure, of a TIMER and of a COUNTER
pub members_within : (types : List TypeDecl) (base : Base) → SoundTypes types → Each (λ e. Within types (stride types base) e.1) (members types base)
members_within types OneBit s = tt
members_within types Sint s = tt
members_within types Int s = tt
members_within types Dint s = tt
members_within types Timer s = omega arith
members_within types Counter s = omega arith
members_within types (User i) s = go (slice_get types i) refl
  where
    go : (o : Option TypeDecl) → slice_get types i ≡ o → Each (λ e. Within types (8 * slice_index (sizes types) i) e.1) (placed_from types (sizes types) 0 (unwrap_or (option_map (λ d. d.members) o) []))
    go None p = tt
    go (Some d) p =
        let total : slice_index (sizes types) i ≡ round_up 4 (end_from types (sizes types) 0 d.members) = subst (λ (ss : List ℕ). slice_index ss i ≡ structure_in types (sizes types) d) s.settled (get_mapped (structure_in types (sizes types)) types i d p) in
        each_map (λ e. Within types (8 * end_from types (sizes types) 0 d.members) e.1) (λ e. Within types (8 * slice_index (sizes types) i) e.1) (placed_from types (sizes types) 0 d.members) (λ e w. (omega (arith, total, w.0), w.1, w.2)) (placed_within types 0 d.members (each_get (λ d. Each (λ m. IsSoundType types (type_of types m)) d.members) types i d s.members p))

-- what is looked up in a table has what each entry has
pub looked_up_has : {A : Type 0} (P : A → Type 0) (name : List ℕ) (table : List (List ℕ × A)) (x : A) → Each (λ e. P e.1) table → looked_up name table ≡ Some x → P x
looked_up_has {A} P name table x p q = go (find (λ e. same e.0 name) table) refl q
  where
    go : (o : Option (List ℕ × A)) → find (λ e. same e.0 name) table ≡ o → option_map (λ e. e.1) o ≡ Some x → P x
    go None r t = absurd (cc t)
    go (Some e) r t = subst P (cc t) (each_find (λ e. P e.1) (λ e. same e.0 name) table e p r)

-- a structure, a TIMER and a COUNTER begin on a byte, and what has no members has none
pub on_byte : (base : Base) (at : ℕ) → IsByteAligned (kind_of base) at → (base ≡ OneBit → ⊥) → at % 8 ≡ 0
on_byte OneBit at p q = absurd (q refl)
on_byte Sint at p q = p
on_byte Int at p q = p
on_byte Dint at p q = p
on_byte Timer at p q = p
on_byte Counter at p q = p
on_byte (User i) at p q = p

pub member_fits : (types : List TypeDecl) (base : Base) (name : List ℕ) (m : Member) → SoundTypes types → member types base name ≡ Some m → HasBytes types m.of × ((stop at : ℕ) → EndsBy types (single base) stop at → EndsBy types m.of stop (at + m.at))
member_fits types base name m s p =
    let w = looked_up_has (Within types (stride types base)) name (members types base) m (members_within types base s) p in
    (w.1, λ stop at e. (w.2 at (on_byte base at e.0 (λ q. none (subst (λ (b : Base). member types b name ≡ Some m) q p))), omega (arith, w.0, e.1)))
  where
    none : member types OneBit name ≡ Some m → ⊥
    none q = cc q

pub begins_at : (base : Base) (n : ℕ) → IsByteAligned (kind_of base) (8 * n)
begins_at base n = subst (λ (k : ℕ). IsByteAligned (kind_of base) k) (omega arith) (begins_bytes base 0 n refl)
