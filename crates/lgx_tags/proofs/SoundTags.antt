-- Entries that were let in have sound types.
use Rattle.std.specs.Prelude.{◌≡◌, ℕ, zero, suc, ◌+◌, ◌*◌, ◌<◌, ◌≤◌, List, [], ◌∷◌, length, slice_get, slice_index, Option, Some, None, refl}
use Rattle.std.specs.List.{AllByRecursion as Each}
use Rattle.std.proofs.Common.{arith, subst}
use Rattle.std.proofs.Math.Nat.{mul-le-mul_right}
use Rattle.spec_language.specs.declared.types.Base.{Base}
use Rattle.spec_language.specs.declared.types.Base.TheVariants.{Bool as OneBit, Sint, Int, Dint, Timer, Counter, User}
use Rattle.spec_language.specs.declared.types.DataType.{DataType}
use Rattle.spec_language.specs.declared.types.TypeDecl.{TypeDecl}
use Rattle.spec_language.specs.declared.types.MemberDecl.{MemberDecl}
use Rattle.spec_language.specs.Layout.{single, type_of, begin_after, end_from, structure_in, sizes, size_of}
use Rattle.spec_language.specs.LayoutLaws.{IsSoundType, SoundTypes}
use Rattle.spec_language.specs.Resolution.{stride}
use Rattle.spec_language.specs.ResolutionLaws.{elements, IsSoundMeaning, Sound}
use Rattle.spec_language.specs.Declarations.{Meaning, tag, alias, Declarations}
use Rattle.spec_base.proofs.Lists.{each_map, each_get, get_mapped}
use Rattle.spec_language.proofs.TypesFit.{width_of, end_grows}
use Rattle.lgx_types.specs.Tables.{IsNumbered, HasMembers}
use Rattle.lgx_tags.specs.Tables.{IsSized, IsAdmitted}

some_elements : (n : ℕ) → 1 ≤ elements n
some_elements zero = omega arith
some_elements (suc n) = omega arith

some_stride : (types : List TypeDecl) (base : Base) → 0 < size_of types (single base) → 1 ≤ stride types base
some_stride types OneBit h = omega arith
some_stride types Sint h = omega arith
some_stride types Int h = omega arith
some_stride types Dint h = omega arith
some_stride types Timer h = omega arith
some_stride types Counter h = omega arith
some_stride types (User i) h = omega arith

-- a sound type has a byte at least
pub some_bytes : (types : List TypeDecl) (t : DataType) → IsSoundType types t → 0 < size_of types t
some_bytes types t s =
    let wide : 1 * stride types t.base ≤ elements t.dim * stride types t.base = mul-le-mul_right {m = 1} {n = elements t.dim} (stride types t.base) (some_elements t.dim) in
    omega (arith, width_of types t.base t.dim s.0, some_stride types t.base s.1, wide)

some_members : (types : List TypeDecl) (ms : List MemberDecl) → 0 < length ms → Each (λ m. IsSoundType types (type_of types m)) ms → 0 < end_from types (sizes types) 0 ms
some_members types [] h s = absurd (omega arith)
some_members types (m ∷ ms) h s =
    let of : DataType = type_of types m in
    omega (arith, some_bytes types of s.0, end_grows types (sizes types) (begin_after 0 of + size_of types of) ms)

-- a structure of the table has a byte at least
some_structure : (types : List TypeDecl) (i : ℕ) → SoundTypes types → Each HasMembers types → i < length types → 0 < slice_index (sizes types) i
some_structure types i s m h = go (slice_get types i) refl
  where
    go : (o : Option TypeDecl) → slice_get types i ≡ o → 0 < slice_index (sizes types) i
    go None p = absurd (past types i h p)
      where
        past : (xs : List TypeDecl) (i : ℕ) → i < length xs → slice_get xs i ≡ None → ⊥
        past [] i h p = omega arith
        past (x ∷ xs) zero h p = cc p
        past (x ∷ xs) (suc i) h p = past xs i (omega arith) p
    go (Some d) p =
        let total : slice_index (sizes types) i ≡ structure_in types (sizes types) d = subst (λ (ss : List ℕ). slice_index ss i ≡ structure_in types (sizes types) d) s.settled (get_mapped (structure_in types (sizes types)) types i d p) in
        omega (arith, total, some_members types d.members (each_get HasMembers types i d m p).0 (each_get (λ d. Each (λ m. IsSoundType types (type_of types m)) d.members) types i d s.members p))

has_bytes : (types : List TypeDecl) (base : Base) → SoundTypes types → Each HasMembers types → IsNumbered (length types) base → 0 < size_of types (single base)
has_bytes types OneBit s m h = omega arith
has_bytes types Sint s m h = omega arith
has_bytes types Int s m h = omega arith
has_bytes types Dint s m h = omega arith
has_bytes types Timer s m h = omega arith
has_bytes types Counter s m h = omega arith
has_bytes types (User i) s m h = some_structure types i s m h

sound_meaning : (types : List TypeDecl) (x : Meaning) → SoundTypes types → Each HasMembers types → IsSized types x → IsSoundMeaning types x
sound_meaning types (tag of) s m h = (h.even, has_bytes types of.base s m h.declared)
sound_meaning types (alias t) s m h = tt

pub all_sound : (d : Declarations) → SoundTypes d.types → Each HasMembers d.types → Each (IsAdmitted d.types d.programs) d.entries → Sound d
all_sound d s m h = record { types = s; tags = each_map (IsAdmitted d.types d.programs) (λ e. IsSoundMeaning d.types e.meaning) d.entries (λ e l. sound_meaning d.types e.meaning s m l.sized) h }
