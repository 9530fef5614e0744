-- Where members lie.
use Rattle.std.specs.Prelude.{map, ◌≡◌, ℕ, zero, suc, ◌+◌, ◌*◌, ◌<◌, ◌≤◌, Bool, true, false, cond, List, [], ◌∷◌, ◌++◌, length, take, drop, slice_get, slice_index, slice_index_or, find as first_with, Option, Some, None, IfSome, option_map, option_and_then, unwrap_or, position, refl}
use Rattle.std.specs.List.{AllByRecursion as Each, position_from}
use Rattle.std.proofs.Common.{ap, sym, subst, arith, ◌∙◌, get_or, drop-cons, append_assoc}
use Rattle.std.proofs.lemmas.Iterator.Adapters.{position_from-zero}
use Rattle.std.proofs.lemmas.List.{take_all}
use Rattle.std.proofs.lemmas.Option.{get_or_from_slice_get}
use Rattle.std.proofs.Math.Nat.{mul-le-mul_right}
use Rattle.lgx_num.specs.Name.{same}
use Rattle.spec_language.specs.declared.types.Base.{Base}
use Rattle.spec_language.specs.declared.types.Base.TheVariants.{Bool as OneBit, Sint, Int, Dint, Timer, Counter, User}
use Rattle.spec_language.specs.declared.types.DataType.{DataType}
use Rattle.spec_language.specs.declared.types.TypeDecl.{TypeDecl}
use Rattle.spec_language.specs.declared.types.MemberDecl.{MemberDecl}
use Rattle.spec_language.specs.declared.types.Member.{Member}
use Rattle.spec_base.specs.declared.limits.TheConstants.{MAX_ELEMENTS, MAX_STRUCTURE_BYTES}
use Rattle.spec_language.specs.Layout.{looked_up, type_of, begin_after, element_in, sized_in, size_in, structure_in, placed_from, sizes, members_of, member}
use Rattle.spec_language.specs.LayoutLaws.{SoundTypes}
use Rattle.spec_language.specs.TypeFaults.{type_fault}
use Rattle.spec_language.proofs.SizesSettle.{faultless, get_there}
use Rattle.spec_language.proofs.TypesFit.{members_within, looked_up_has, rounded}
use Rattle.spec_base.proofs.Lists.{each_map, get_mapped}
use Rattle.lgx_types.specs.Outlines.{outline, member_names}
use Rattle.lgx_types.specs.Sizing.{end_of, types_at}
use Rattle.lgx_types.specs.Tables.{IsSmall, IsTable, HasMembers, HasSize, places_from, places_of}
use Rattle.lgx_types.proofs.MemberSizes.{end_is}
use Rattle.lgx_types.proofs.Found.{take_map_more}

-- ---- member by member

module _ (ss : List ℕ) where
  pub of_grows : (at : ℕ) (ts : List DataType) → at ≤ end_of ss at ts
  of_grows at [] = omega arith
  of_grows at (t ∷ ts) = omega (arith, rounded [] t.base t.dim at, of_grows (begin_after at t + size_in ss t) ts)

  pub ends_next : (ts : List DataType) (at k n : ℕ) (d : DataType) → k < length ts → end_of ss at (drop k ts) ≡ n → end_of ss (begin_after at (get_or ts k d) + size_in ss (get_or ts k d)) (drop (k + 1) ts) ≡ n
  ends_next ts at k n d h p =
      let one : suc k ≡ k + 1 = omega arith in
      subst (λ (j : ℕ). end_of ss (begin_after at (get_or ts k d) + size_in ss (get_or ts k d)) (drop j ts) ≡ n) one (subst (λ (l : List DataType). end_of ss at l ≡ n) (drop-cons ts k d h) p)

  pub fits_next : (ts : List DataType) (at k n : ℕ) (d : DataType) → k < length ts → end_of ss at (drop k ts) ≡ n → begin_after at (get_or ts k d) + size_in ss (get_or ts k d) ≤ n
  fits_next ts at k n d h p = omega (arith, of_grows (begin_after at (get_or ts k d) + size_in ss (get_or ts k d)) (drop (k + 1) ts), ends_next ts at k n d h p)

  pub places_next : (ts : List DataType) (at k : ℕ) (d : DataType) (ps all : List Member) → k < length ts → ps ++ places_from ss at (drop k ts) ≡ all → (ps ++ record { of = get_or ts k d; at = 8 * begin_after at (get_or ts k d) } ∷ []) ++ places_from ss (begin_after at (get_or ts k d) + size_in ss (get_or ts k d)) (drop (k + 1) ts) ≡ all
  places_next ts at k d ps all h p =
      let one : suc k ≡ k + 1 = omega arith in
      let t : DataType = get_or ts k d in
      rw append_assoc (subst (λ (j : ℕ). ps ++ (record { of = t; at = 8 * begin_after at t } ∷ places_from ss (begin_after at t + size_in ss t) (drop j ts)) ≡ all) one (subst (λ (l : List DataType). ps ++ places_from ss at l ≡ all) (drop-cons ts k d h) p))

-- ---- a member by its name

position_suc : (test : List ℕ → Bool) (i : ℕ) (xs : List (List ℕ)) → position_from test (suc i) xs ≡ option_map suc (position_from test i xs)
position_suc test i [] = refl
position_suc test i (x ∷ xs) =
    let one : suc i + 1 ≡ suc (i + 1) = omega arith in
    go (test x) (subst (λ (n : ℕ). position_from test n xs ≡ option_map suc (position_from test (i + 1) xs)) (sym one) (position_suc test (i + 1) xs))
  where
    go : (b : Bool) → position_from test (suc i + 1) xs ≡ option_map suc (position_from test (i + 1) xs) → cond b (Some (suc i)) (position_from test (suc i + 1) xs) ≡ option_map suc (cond b (Some i) (position_from test (i + 1) xs))
    go true e = refl
    go false e = e

pub place_found : (types : List TypeDecl) (ss : List ℕ) (at : ℕ) (ms : List MemberDecl) (name : List ℕ) → option_and_then (λ k. slice_get (places_from ss at (outline types ms)) k) (position_from (λ n. same n name) 0 (member_names ms)) ≡ looked_up name (placed_from types ss at ms)
place_found types ss at [] name = refl
place_found types ss at (m ∷ ms) name =
    let t : DataType = type_of types m in
    let begin : ℕ = begin_after at t in
    go (same m.name name) (rw (position_suc (λ n. same n name) 0 (member_names ms)) (next (position_from (λ n. same n name) 0 (member_names ms))) ∙ place_found types ss (begin + size_in ss t) ms name)
  where
    next : (o : Option ℕ) → option_and_then (λ k. slice_get (places_from ss at (outline types (m ∷ ms))) k) (option_map suc o) ≡ option_and_then (λ k. slice_get (places_from ss (begin_after at (type_of types m) + size_in ss (type_of types m)) (outline types ms)) k) o
    next None = refl
    next (Some k) = refl

    go : (b : Bool) → option_and_then (λ k. slice_get (places_from ss at (outline types (m ∷ ms))) k) (position_from (λ n. same n name) 1 (member_names ms)) ≡ looked_up name (placed_from types ss (begin_after at (type_of types m) + size_in ss (type_of types m)) ms) → option_and_then (λ k. slice_get (places_from ss at (outline types (m ∷ ms))) k) (cond b (Some 0) (position_from (λ n. same n name) 1 (member_names ms))) ≡ option_map (λ e. e.1) (cond b (Some (m.name, record { of = type_of types m; at = 8 * begin_after at (type_of types m) })) (first_with (λ e. same e.0 name) (placed_from types ss (begin_after at (type_of types m) + size_in ss (type_of types m)) ms)))
    go true e = refl
    go false e = e

pub index_mapped : {A B : Type 0} (f : A → B) (g : Option A → B) (xs : List A) (i : ℕ) → ((x : A) → g (Some x) ≡ f x) → slice_index_or (map f xs) i (g None) ≡ g (slice_get xs i)
index_mapped f g [] i h = refl
index_mapped f g (x ∷ xs) zero h = sym (h x)
index_mapped f g (x ∷ xs) (suc i) h = index_mapped f g xs i h

pub laid_member : (types : List TypeDecl) (i : ℕ) (name : List ℕ) → option_and_then (λ k. slice_get (slice_index_or (places_of types) i []) k) (position (λ n. same n name) (member_names (members_of types i))) ≡ member types (User i) name
laid_member types i name =
    let at : slice_index_or (places_of types) i [] ≡ places_from (sizes types) 0 (outline types (members_of types i)) = index_mapped (λ d. places_from (sizes types) 0 (outline types d.members)) (λ o. places_from (sizes types) 0 (outline types (unwrap_or (option_map (λ d. d.members) o) []))) types i (λ x. refl) in
    rw (at, position_from-zero (λ n. same n name) (member_names (members_of types i))) (place_found types (sizes types) 0 (members_of types i) name)

-- ---- what a table keeps

pub small_index : (xs : List ℕ) (i : ℕ) → Each IsSmall xs → slice_index xs i ≤ MAX_STRUCTURE_BYTES
small_index [] i h = omega arith
small_index (x ∷ xs) zero h = h.0
small_index (x ∷ xs) (suc i) h = small_index xs i h.1

pub sound_of : (types : List TypeDecl) → Each HasMembers types → type_fault types ≡ None → SoundTypes types
sound_of types full none = faultless types (each_map HasMembers (λ d. 0 < length d.members) types (λ d h. h.0) full) none

pub sound : (types : List TypeDecl) (bytes : List ℕ) (places : List (List Member)) → IsTable types bytes places → SoundTypes types
sound types bytes places t = sound_of types t.members t.faultless

-- a member begins within its structure
pub member_low : (types : List TypeDecl) (bytes : List ℕ) (places : List (List Member)) → IsTable types bytes places → (i : ℕ) (name : List ℕ) (o : Option Member) → o ≡ member types (User i) name → IfSome o (λ m. m.at ≤ 8 * MAX_STRUCTURE_BYTES)
member_low types bytes places t i name None p = tt
member_low types bytes places t i name (Some m) p =
    let w = looked_up_has _ name _ m (members_within types (User i) (sound types bytes places t)) (sym p) in
    let small : slice_index (sizes types) i ≤ MAX_STRUCTURE_BYTES = subst (λ (xs : List ℕ). slice_index xs i ≤ MAX_STRUCTURE_BYTES) t.sized (small_index bytes i t.small) in
    omega (arith, w.0, small)

many_fit : (n e : ℕ) → suc n ≤ MAX_ELEMENTS → e ≤ MAX_STRUCTURE_BYTES → suc n * e ≤ MAX_STRUCTURE_BYTES * MAX_ELEMENTS
many_fit n e h k = omega (arith, mul-le-mul_right {m = suc n} {n = MAX_ELEMENTS} e h, k)

sized_fits : (ss : List ℕ) (base : Base) (dim : ℕ) → dim ≤ MAX_ELEMENTS → element_in ss base ≤ MAX_STRUCTURE_BYTES → sized_in ss base dim ≤ MAX_STRUCTURE_BYTES * MAX_ELEMENTS
sized_fits ss base zero h k = omega (arith, k)
sized_fits ss OneBit (suc n) h k = omega (arith, h)
sized_fits ss Sint (suc n) h k = many_fit n 1 h k
sized_fits ss Int (suc n) h k = many_fit n 2 h k
sized_fits ss Dint (suc n) h k = many_fit n 4 h k
sized_fits ss Timer (suc n) h k = many_fit n 16 h k
sized_fits ss Counter (suc n) h k = many_fit n 12 h k
sized_fits ss (User i) (suc n) h k = many_fit n (slice_index ss i) h k

element_small : (ss : List ℕ) (base : Base) → Each IsSmall ss → element_in ss base ≤ MAX_STRUCTURE_BYTES
element_small ss OneBit h = omega arith
element_small ss Sint h = omega arith
element_small ss Int h = omega arith
element_small ss Dint h = omega arith
element_small ss Timer h = omega arith
element_small ss Counter h = omega arith
element_small ss (User i) h = small_index ss i h

pub size_fits : (types : List TypeDecl) (bytes : List ℕ) (places : List (List Member)) (t : DataType) → IsTable types bytes places → HasSize types t → size_in bytes t ≤ MAX_STRUCTURE_BYTES * MAX_ELEMENTS
size_fits types bytes places t h k = sized_fits bytes t.base t.dim k.short (element_small bytes t.base h.small)

-- a structure's members end within its size
pub ends_small : (types : List TypeDecl) (bytes : List ℕ) (i : ℕ) → bytes ≡ sizes types → Each IsSmall bytes → SoundTypes types → end_of bytes 0 (outline types (members_of types i)) ≤ MAX_STRUCTURE_BYTES
ends_small types bytes i p h s = go (slice_get types i) refl
  where
    go : (o : Option TypeDecl) → slice_get types i ≡ o → end_of bytes 0 (outline types (unwrap_or (option_map (λ d. d.members) o) [])) ≤ MAX_STRUCTURE_BYTES
    go None q = omega arith
    go (Some d) q =
        let total : slice_index (sizes types) i ≡ structure_in types (sizes types) d = subst (λ (ss : List ℕ). slice_index ss i ≡ structure_in types (sizes types) d) s.settled (get_mapped (structure_in types (sizes types)) types i d q) in
        let same_size : slice_index bytes i ≡ slice_index (sizes types) i = ap (λ (l : List ℕ). slice_index l i) p in
        let end : end_of bytes 0 (outline types d.members) ≡ end_of (sizes types) 0 (outline types d.members) = ap (λ (l : List ℕ). end_of l 0 (outline types d.members)) p in
        omega (arith, total, same_size, end, end_is types (sizes types) 0 d.members, small_index bytes i h)

-- ---- structure by structure

abbrev pub placed_by : List ℕ → List TypeDecl → TypeDecl → List Member
placed_by bytes types d = places_from bytes 0 (outline types d.members)

pub all_next : (bytes : List ℕ) (types : List TypeDecl) (i : ℕ) → i < length types → map (placed_by bytes types) (take i types) ++ places_from bytes 0 (types_at types i) ∷ [] ≡ map (placed_by bytes types) (take (i + 1) types)
all_next bytes types i h =
    let (d, got) = get_there types i h in
    let here : d ≡ get_or types i d = sym (get_or_from_slice_get types i d d got) in
    let of : types_at types i ≡ outline types d.members = ap (λ (o : Option TypeDecl). outline types (unwrap_or (option_map (λ d. d.members) o) [])) got in
    ap (λ (l : List DataType). map (placed_by bytes types) (take i types) ++ places_from bytes 0 l ∷ []) of ∙ sym (take_map_more (placed_by bytes types) types i d h here)

pub all_end : (bytes : List ℕ) (types : List TypeDecl) (i : ℕ) → length types ≤ i → bytes ≡ sizes types → map (placed_by bytes types) (take i types) ≡ places_of types
all_end bytes types i h p = ap (λ (l : List TypeDecl). map (placed_by bytes types) l) (take_all i types h) ∙ ap (λ (b : List ℕ). map (placed_by b types) types) p
