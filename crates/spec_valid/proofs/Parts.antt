-- Members, elements and tags begin at multiples of their sizes.
use Rattle.std.specs.Prelude.{◌≡◌, ℕ, zero, suc, ◌+◌, ◌*◌, ◌/◌, ◌%◌, List, [], ◌∷◌, map, length, replicate, slice_get, slice_index, Option, Some, None, option_map, unwrap_or, refl}
use Rattle.std.specs.Option.{option_or}
use Rattle.std.specs.List.{AllByRecursion as Each}
use Rattle.std.proofs.Common.{sym, subst, arith}
use Rattle.spec_language.specs.declared.types.Base.{Base}
use Rattle.spec_language.specs.declared.types.Base.TheVariants.{Bool as OneBit, Sint, Int, Dint, Timer, Counter, User}
use Rattle.spec_language.specs.declared.types.TypeDecl.{TypeDecl}
use Rattle.spec_language.specs.declared.types.MemberDecl.{MemberDecl}
use Rattle.spec_language.specs.declared.types.Member.{Member}
use Rattle.spec_language.specs.declared.tag.Scope.{Scope}
use Rattle.spec_language.specs.declared.tag.Scope.TheVariants.{Controller, Program}
use Rattle.spec_language.specs.Layout.{alignment_of, begin_after, end_from, member, members, members_of, placed_from, round_up, size_in, sizes, sizes_to, structure_in, type_of}
use Rattle.spec_language.specs.Declarations.{Entry, Declarations, entry_of, entry_size, in_order, is_named, laid, laid_from}
use Rattle.spec_language.specs.Resolution.{seen_from, stride}
use Rattle.spec_language.proofs.TypesFit.{looked_up_has}
use Rattle.spec_base.proofs.Lists.{each_find}
use Rattle.spec_valid.specs.Aligned.{IsAlignedFor}

-- ---- sizes of structures

abbrev pub IsWords : ℕ → Type 0
IsWords size = size % 4 ≡ 0

no_sizes : (n : ℕ) → Each IsWords (replicate n 0)
no_sizes zero = tt
no_sizes (suc n) = (refl, no_sizes n)

structures_words : (types : List TypeDecl) (ss : List ℕ) (ds : List TypeDecl) → Each IsWords (map (structure_in types ss) ds)
structures_words types ss [] = tt
structures_words types ss (d ∷ ds) = (omega arith, structures_words types ss ds)

sizes_words : (depth : ℕ) (types : List TypeDecl) → Each IsWords (sizes_to depth types)
sizes_words zero types = no_sizes (length types)
sizes_words (suc depth) types = structures_words types (sizes_to depth types) types

words_at : (ss : List ℕ) (i : ℕ) → Each IsWords ss → IsWords (slice_index ss i)
words_at [] i h = refl
words_at (s ∷ ss) zero h = h.0
words_at (s ∷ ss) (suc i) h = words_at ss i h.1

pub structure_words : (types : List TypeDecl) (i : ℕ) → IsWords (slice_index (sizes types) i)
structure_words types i = words_at (sizes types) i (sizes_words (length types) types)

-- ---- elements

strides_on : (at n q : ℕ) → at % 32 ≡ 0 → (at + n * (8 * (4 * q))) % 32 ≡ 0
strides_on at n q p = omega arith

words_on : (at n s : ℕ) → at % 32 ≡ 0 → IsWords s → (at + n * (8 * s)) % 32 ≡ 0
words_on at n s p w =
    let e : 4 * (s / 4) ≡ s = omega arith in
    subst (λ (t : ℕ). (at + n * (8 * t)) % 32 ≡ 0) e (strides_on at n (s / 4) p)

pub element_aligned : (types : List TypeDecl) (base : Base) (at n : ℕ) → IsAlignedFor base at → IsAlignedFor base (at + n * stride types base)
element_aligned types OneBit at n p = omega arith
element_aligned types Sint at n p = omega arith
element_aligned types Int at n p = omega arith
element_aligned types Dint at n p = omega arith
element_aligned types Timer at n p = omega arith
element_aligned types Counter at n p = omega arith
element_aligned types (User i) at n p = words_on at n (slice_index (sizes types) i) p (structure_words types i)

-- ---- members

abbrev pub IsAlignedFrom : ℕ → Member → Type 0
IsAlignedFrom at m = IsAlignedFor m.of.base (at + m.at)

begin_aligned : (base : Base) (dim before at : ℕ) → at % 32 ≡ 0 → IsAlignedFor base (at + 8 * round_up (alignment_of base dim) before)
begin_aligned OneBit dim before at p = omega arith
begin_aligned Sint dim before at p = omega arith
begin_aligned Int dim before at p = omega arith
begin_aligned Dint dim before at p = omega arith
begin_aligned Timer dim before at p = omega arith
begin_aligned Counter dim before at p = omega arith
begin_aligned (User i) dim before at p = omega arith

placed_aligned : (types : List TypeDecl) (ss : List ℕ) (before at : ℕ) (ms : List MemberDecl) → at % 32 ≡ 0 → Each (λ e. IsAlignedFrom at e.1) (placed_from types ss before ms)
placed_aligned types ss before at [] p = tt
placed_aligned types ss before at (m ∷ ms) p =
    let of = type_of types m in
    (begin_aligned of.base of.dim before at p, placed_aligned types ss (begin_after before of + size_in ss of) at ms p)

members_aligned : (types : List TypeDecl) (base : Base) (at : ℕ) → IsAlignedFor base at → Each (λ e. IsAlignedFrom at e.1) (members types base)
members_aligned types OneBit at p = tt
members_aligned types Sint at p = tt
members_aligned types Int at p = tt
members_aligned types Dint at p = tt
members_aligned types Timer at p = (omega arith, (omega arith, (omega arith, (omega arith, (omega arith, tt)))))
members_aligned types Counter at p = (omega arith, (omega arith, (omega arith, (omega arith, (omega arith, (omega arith, (omega arith, tt)))))))
members_aligned types (User i) at p = placed_aligned types (sizes types) 0 at (members_of types i) p

pub member_aligned : (types : List TypeDecl) (base : Base) (name : List ℕ) (m : Member) (at : ℕ) → IsAlignedFor base at → member types base name ≡ Some m → IsAlignedFrom at m
member_aligned types base name m at p q = looked_up_has (IsAlignedFrom at) name (members types base) m (members_aligned types base at p) q

-- ---- tags

pub tag_aligned : (base : Base) (byte : ℕ) → IsWords byte → IsAlignedFor base (8 * byte)
tag_aligned OneBit byte p = omega arith
tag_aligned Sint byte p = omega arith
tag_aligned Int byte p = omega arith
tag_aligned Dint byte p = omega arith
tag_aligned Timer byte p = omega arith
tag_aligned Counter byte p = omega arith
tag_aligned (User i) byte p = omega arith

abbrev pub BeginsOnWord : ℕ × Entry → Type 0
BeginsOnWord x = IsWords x.0

laid_on_words : (types : List TypeDecl) (at : ℕ) (es : List Entry) → IsWords at → Each BeginsOnWord (laid_from types at es)
laid_on_words types at [] p = tt
laid_on_words types at (e ∷ es) p = (p, laid_on_words types (round_up 4 (at + entry_size types e)) es (omega arith))

entry_on_word : (d : Declarations) (scope : Scope) (name : List ℕ) (x : ℕ × Entry) → entry_of d scope name ≡ Some x → BeginsOnWord x
entry_on_word d scope name x p = each_find BeginsOnWord (λ e. is_named scope name e.1) (laid d) x (laid_on_words d.types 0 (in_order d) refl) p

pub seen_on_word : (d : Declarations) (scope : Scope) (name : List ℕ) (x : ℕ × Entry) → seen_from d scope name ≡ Some x → BeginsOnWord x
seen_on_word d Controller name x p = entry_on_word d Controller name x p
seen_on_word d (Program q) name x p = go (entry_of d (Program q) name) refl p
  where
    go : (o : Option (ℕ × Entry)) → entry_of d (Program q) name ≡ o → option_or o (entry_of d Controller name) ≡ Some x → BeginsOnWord x
    go None r t = entry_on_word d Controller name x t
    go (Some y) r t = entry_on_word d (Program q) name x (cc (r, t))
