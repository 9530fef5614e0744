-- Structures of which none is refused are sound, and small.
use Rattle.std.specs.Prelude.{◌≡◌, ℕ, ◌<◌, ◌≤◌, ◌&&◌, nat_lt, nat_le, false, List, [], length, flat_map, slice_index, Option, Some, None, option_and_then, IsTrue, refl}
use Rattle.std.specs.List.{AllByRecursion as Each, enumerate_from, list_all, range_with_len}
use Rattle.std.proofs.Common.{arith}
use Rattle.std.proofs.lemmas.Bool.{and_from, le-leb, lt-ltb, ltb-false}
use Rattle.std.proofs.lemmas.List.Recursion.{and_from_places}
use Rattle.spec_base.proofs.Lists.{each_map}
use Rattle.spec_base.specs.FirstCause.{where_true}
use Rattle.spec_base.specs.declared.limits.TheConstants.{MAX_ELEMENTS, MAX_STRUCTURE_BYTES}
use Rattle.spec_language.specs.Layout.{sizes, type_of}
use Rattle.spec_language.specs.LayoutLaws.{IsEven, IsSoundType}
use Rattle.spec_language.specs.TypeFaults.{of_structure, reaches_itself, structure_faults, type_fault, type_faults}
use Rattle.spec_language.specs.declared.types.TypeCode.TheVariants.{Y3, Y5}
use Rattle.spec_language.specs.declared.types.TypeDecl.{TypeDecl}
use Rattle.spec_language.specs.declared.types.TypeFault.{TypeFault}
use Rattle.spec_language.proofs.Reaching.{among_numbers}
use Rattle.spec_language.proofs.SizesSettle.{append_none, faultless, first_none, flat_none, no_rings, settles, sizes_length, starts, where_none}
use Rattle.spec_machine.specs.ValidProject.{has_small_members, has_small_types, is_small_structure, is_within}
use Rattle.spec_machine.specs.declared.limits.TheConstants.{MAX_MEMBERS, MAX_TYPES}
use Rattle.spec_project.specs.Faults.{at_place, here_for}
use Rattle.spec_project.specs.Limits.{HasFewMembers, HasSmallDim, IsListOf}
use Rattle.spec_project.specs.Tags.{types_fault}
use Rattle.spec_project.specs.declared.described.Described.{Described}
use Rattle.spec_project.specs.declared.fault.Inner.TheVariants.{OfType}
use Rattle.spec_project.specs.declared.fault.ProjectCode.TheVariants.{P9}
use Rattle.spec_valid.proofs.Lists.{all_pass}
use Rattle.spec_valid.proofs.Passes.{not_mapped}

pub within_of : (n limit : ℕ) → 1 ≤ n → n ≤ limit → IsTrue (is_within n limit)
within_of n limit h k = and_from (nat_lt 0 n) (nat_le n limit) (lt-ltb 0 n h) (le-leb n limit k)

pub faultless_types : (p : Described) → types_fault p ≡ None → type_fault p.types ≡ None
unfolding types_fault
faultless_types p h = go (type_fault p.types) (not_mapped _ _ h)
  where
    go : (o : Option TypeFault) → option_and_then (λ f. at_place f.decl (Some (here_for P9 (OfType f.code)))) o ≡ None
        → o ≡ None
    go None r = refl
    go (Some f) r = absurd (cc r)

-- ---- sound

pub have_members : (types : List TypeDecl) → Each HasFewMembers types → Each (λ d. 0 < length d.members) types
have_members types h = each_map HasFewMembers (λ d. 0 < length d.members) types (λ d few. few.enough) h

pub structure_some : (types : List TypeDecl) → Each (λ d. 0 < length d.members) types → type_fault types ≡ None
    → (i : ℕ) → i < length types → 0 < slice_index (sizes types) i
structure_some types full none i h =
    let sound = faultless types full none in
    let even : Each (λ d. Each (λ m. IsEven (type_of types m)) d.members) types =
    each_map (λ d. Each (λ m. IsSoundType types (type_of types m)) d.members) (λ d. Each (λ m. IsEven (type_of types m)) d.members) types (λ d s. each_map (λ m. IsSoundType types (type_of types m)) (λ m. IsEven (type_of types m)) d.members (λ m both. both.0) s) sound.members in
    (settles types (no_rings types none) full even (length types) [] i (starts types i h) (omega arith)).1

-- ---- small

small_members : (d : TypeDecl) → HasFewMembers d → IsTrue (has_small_members d)
small_members d h =
    and_from (is_within (length d.members) MAX_MEMBERS) (list_all (λ m. nat_le m.dim MAX_ELEMENTS) d.members) (within_of (length d.members) MAX_MEMBERS h.enough h.few)
    (all_pass HasSmallDim (λ m. nat_le m.dim MAX_ELEMENTS) d.members (λ m small. le-leb m.dim MAX_ELEMENTS small) h.each)

-- Y5 of no structure
short_structure : (types : List TypeDecl) → type_fault types ≡ None → (i : ℕ) → i < length types
    → nat_lt MAX_STRUCTURE_BYTES (slice_index (sizes types) i) ≡ false
short_structure types none i h =
    let a = append_none (flat_map (structure_faults types) (enumerate_from 0 types)) _ (first_none (type_faults types) none) in
    let b = append_none (flat_map (λ i. where_true (reaches_itself types i) (of_structure Y3 i)) (range_with_len 0 (length types))) _ a.1 in
    where_none _ _ (flat_none (λ i. where_true (nat_lt MAX_STRUCTURE_BYTES (slice_index (sizes types) i)) (of_structure Y5 i)) (range_with_len 0 (length types)) i b.1 (among_numbers 0 (length types) i (omega arith) (omega (arith, h))))

small_structures : (types : List TypeDecl) → type_fault types ≡ None
    → IsTrue (list_all is_small_structure (sizes types))
small_structures types none =
    and_from_places (list_all is_small_structure) is_small_structure refl (λ x xs. refl) (sizes types) 0
    (λ i h. le-leb (slice_index (sizes types) i) MAX_STRUCTURE_BYTES (ltb-false MAX_STRUCTURE_BYTES (slice_index (sizes types) i) (short_structure types none i (omega (arith, h, sizes_length types (length types))))))

pub small_types : (types : List TypeDecl) → IsListOf 0 MAX_TYPES HasFewMembers types → type_fault types ≡ None
    → IsTrue (has_small_types types)
small_types types h none =
    and_from (nat_le (length types) MAX_TYPES && list_all has_small_members types) (list_all is_small_structure (sizes types))
    (and_from (nat_le (length types) MAX_TYPES) (list_all has_small_members types) (le-leb (length types) MAX_TYPES h.few) (all_pass HasFewMembers has_small_members types small_members h.each))
    (small_structures types none)
