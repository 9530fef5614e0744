-- The first fault of all, and none.
use Rattle.std.specs.Prelude.{map, ◌≡◌, ℕ, zero, suc, ◌+◌, ◌<◌, ◌≤◌, ◌⊎◌, Bool, true, false, nat_lt, List, [], ◌∷◌, ◌++◌, length, flat_map, slice_index, Some, None, refl}
use Rattle.std.specs.List.{AllByRecursion as Each, range_with_len}
use Rattle.std.proofs.Common.{ap, sym, subst, arith, ◌∙◌, inl, inr}
use Rattle.std.proofs.lemmas.List.{ext_get_or}
use Rattle.spec_language.specs.declared.types.TypeDecl.{TypeDecl}
use Rattle.spec_language.specs.declared.types.TypeCode.{TypeCode}
use Rattle.spec_language.specs.declared.types.TypeCode.TheVariants.{Y3, Y5}
use Rattle.spec_language.specs.declared.types.TypeFault.{TypeFault}
use Rattle.spec_base.specs.FirstCause.{where_true, first}
use Rattle.spec_base.specs.declared.limits.TheConstants.{MAX_STRUCTURE_BYTES}
use Rattle.spec_language.specs.Layout.{type_of, structure_in, sizes_to, sizes}
use Rattle.spec_language.specs.LayoutLaws.{IsEven}
use Rattle.spec_language.specs.TypeFaults.{structure_faults, of_structure, reaches_itself, type_fault}
use Rattle.spec_base.proofs.Lists.{each_map}
use Rattle.spec_language.proofs.SizesSettle.{settles, starts, members_even, enumerated_none, sizes_length}
use Rattle.lgx_types.specs.Outlines.{name_faults}
use Rattle.lgx_types.specs.Sizing.{capped, IsSized}
use Rattle.lgx_types.specs.Cycles.{IsFirstCycle}
use Rattle.lgx_types.specs.Tables.{IsSmall, IsLarge, IsTable, HasMembers, places_of}
use Rattle.spec_language.specs.declared.types.Member.{Member}
use Rattle.lgx_types.proofs.Found.{first_more, lt_true, lt_false}
use Rattle.lgx_types.proofs.Placed.{small_index}

-- ---- the first number that fails a test

abbrev at_fault : TypeCode → (ℕ → Bool) → ℕ → List TypeFault
at_fault code fails i = where_true (fails i) (of_structure code i)

none_fail : (code : TypeCode) (fails : ℕ → Bool) (b n : ℕ) → ((j : ℕ) → b ≤ j → j < b + n → fails j ≡ false) → flat_map (at_fault code fails) (range_with_len b n) ≡ []
none_fail code fails b zero h = refl
none_fail code fails b (suc n) h =
    rw (h b (omega arith) (omega arith)) (none_fail code fails (b + 1) n (λ j p q. h j (omega (arith, p)) (omega (arith, q))))

le_or : (b i : ℕ) → b ≤ i → (b ≡ i) ⊎ (b < i)
le_or b i l = grind (arith, l)

first_fails : (code : TypeCode) (fails : ℕ → Bool) (b n i : ℕ) → b ≤ i → i < b + n → fails i ≡ true → ((j : ℕ) → b ≤ j → j < i → fails j ≡ false) → first (flat_map (at_fault code fails) (range_with_len b n)) ≡ Some (of_structure code i)
first_fails code fails b zero i l h p q = absurd (omega (arith, l, h))
first_fails code fails b (suc n) i l h p q = go (fails b) refl (λ t. first_fails code fails (b + 1) n i t (omega (arith, h)) p (λ j r s. q j (omega (arith, r)) s))
  where
    rest : List TypeFault
    rest = flat_map (at_fault code fails) (range_with_len (b + 1) n)

    here : (b ≡ i) ⊎ (b < i) → fails b ≡ true → first (of_structure code b ∷ rest) ≡ Some (of_structure code i)
    here (inl e) f = ap (λ (k : ℕ). Some (of_structure code k)) e
    here (inr e) f = absurd (cc (f, q b (omega arith) e))

    further : (b ≡ i) ⊎ (b < i) → fails b ≡ false → b + 1 ≤ i
    further (inl e) f = absurd (cc (ap fails e, f, p))
    further (inr e) f = omega (arith, e)

    go : (x : Bool) → fails b ≡ x → (b + 1 ≤ i → first rest ≡ Some (of_structure code i)) → first (where_true (fails b) (of_structure code b) ++ rest) ≡ Some (of_structure code i)
    go true f known = rw f (here (le_or b i l) f)
    go false f known = rw f (known (further (le_or b i l) f))

-- ---- by the parts of the list of faults

-- if names and members are in order, a structure that reaches itself is first
pub cycle_first : (types : List TypeDecl) (i : ℕ) → name_faults types ≡ [] → IsFirstCycle types i → type_fault types ≡ Some (of_structure Y3 i)
cycle_first types i none h =
    rw none (first_more _ _ (of_structure Y3 i) (first_fails Y3 (reaches_itself types) 0 (length types) i (omega arith) (omega (arith, h.there)) h.cycle (λ j p q. h.before j q)))

abbrev pub AllSized : List TypeDecl → List ℕ → Type 0
AllSized types bytes = (length bytes ≡ length types) × ((i : ℕ) → i < length types → IsSized types i (slice_index bytes i))

abbrev NoRings : List TypeDecl → Type 0
NoRings types = (j : ℕ) → j < length types → reaches_itself types j ≡ false

no_cycles : (types : List TypeDecl) (bytes : List ℕ) → AllSized types bytes → NoRings types
no_cycles types bytes h = λ j p. (h.1 j p).alone

cycles_none : (types : List TypeDecl) (bytes : List ℕ) → AllSized types bytes → flat_map (λ i. where_true (reaches_itself types i) (of_structure Y3 i)) (range_with_len 0 (length types)) ≡ []
cycles_none types bytes h = none_fail Y3 (reaches_itself types) 0 (length types) (λ j p q. no_cycles types bytes h j (omega (arith, q)))

-- ---- sizes are those of the definition

all_even : (types : List TypeDecl) → name_faults types ≡ [] → Each (λ d. Each (λ m. IsEven (type_of types m)) d.members) types
all_even types none = each_map (λ d. (k : ℕ) × (structure_faults types (k, d) ≡ [])) (λ d. Each (λ m. IsEven (type_of types m)) d.members) types (λ d h. members_even types h.0 d h.1) (enumerated_none (structure_faults types) 0 types none)

one_more : (types : List TypeDecl) → NoRings types → Each HasMembers types → name_faults types ≡ [] → sizes_to (suc (length types)) types ≡ sizes_to (length types) types
one_more types cycles full none =
    ext_get_or 0 (sizes_to (suc (length types)) types) (sizes_to (length types) types) (cc (sizes_length types (suc (length types)), sizes_length types (length types))) (λ i h. sym (settles types cycles (each_map HasMembers (λ d. 0 < length d.members) types (λ d k. k.0) full) (all_even types none) (length types) [] i (starts types i (omega (arith, sizes_length types (suc (length types)), h))) (omega arith)).0)

more_rounds : (types : List TypeDecl) → NoRings types → Each HasMembers types → name_faults types ≡ [] → (d : ℕ) → sizes_to (length types + d) types ≡ sizes types
more_rounds types cycles full none zero = let e : length types + zero ≡ length types = omega arith in ap (λ (n : ℕ). sizes_to n types) e
more_rounds types cycles full none (suc d) =
    let e : length types + suc d ≡ suc (length types + d) = omega arith in
    ap (λ (n : ℕ). sizes_to n types) e ∙ ap (λ (l : List ℕ). map (structure_in types l) types) (more_rounds types cycles full none d) ∙ one_more types cycles full none

size_is : (types : List TypeDecl) (bytes : List ℕ) → name_faults types ≡ [] → Each HasMembers types → AllSized types bytes → (i : ℕ) → i < length types → capped (slice_index bytes i) ≡ capped (slice_index (sizes types) i)
size_is types bytes none full h i p =
    let known : IsSized types i (slice_index bytes i) = h.1 i p in
    known.rounds (length types + known.start) (omega arith) ∙ ap (λ (l : List ℕ). capped (slice_index l i)) (more_rounds types (no_cycles types bytes h) full none known.start)

large_is : (a b : ℕ) → capped a ≡ capped b → MAX_STRUCTURE_BYTES < a → MAX_STRUCTURE_BYTES < b
large_is a b p h = omega (arith, p, h)

small_is : (a b : ℕ) → capped a ≡ capped b → a ≤ MAX_STRUCTURE_BYTES → a ≡ b
small_is a b p h = omega (arith, p, h)

-- a structure that is too large is first, if none reaches itself
pub large_first : (types : List TypeDecl) (bytes : List ℕ) (i : ℕ) → name_faults types ≡ [] → Each HasMembers types → AllSized types bytes → IsLarge bytes i → type_fault types ≡ Some (of_structure Y5 i)
large_first types bytes i none full h l =
    let there : i < length types = omega (arith, h.0, l.there) in
    let same : (j : ℕ) → j < length types → capped (slice_index bytes j) ≡ capped (slice_index (sizes types) j) = size_is types bytes none full h in
    let found : first (flat_map (at_fault Y5 (λ j. nat_lt MAX_STRUCTURE_BYTES (slice_index (sizes types) j))) (range_with_len 0 (length types))) ≡ Some (of_structure Y5 i) = first_fails Y5 (λ j. nat_lt MAX_STRUCTURE_BYTES (slice_index (sizes types) j)) 0 (length types) i (omega arith) (omega (arith, there)) (lt_true MAX_STRUCTURE_BYTES (slice_index (sizes types) i) (large_is (slice_index bytes i) (slice_index (sizes types) i) (same i there) l.large)) (λ j p q. lt_false MAX_STRUCTURE_BYTES (slice_index (sizes types) j) (low j (omega (arith, q, there)) (l.before j q) (same j (omega (arith, q, there))))) in
    rw (none, cycles_none types bytes h) found
  where
    low : (j : ℕ) → j < length types → slice_index bytes j ≤ MAX_STRUCTURE_BYTES → capped (slice_index bytes j) ≡ capped (slice_index (sizes types) j) → slice_index (sizes types) j ≤ MAX_STRUCTURE_BYTES
    low j p q r = omega (arith, q, r)

-- if none reaches itself and none is too large, the sizes are the definition's, and there is no fault
pub sizes_are : (types : List TypeDecl) (bytes : List ℕ) → name_faults types ≡ [] → Each HasMembers types → AllSized types bytes → Each IsSmall bytes → bytes ≡ sizes types
sizes_are types bytes none full h small =
    ext_get_or 0 bytes (sizes types) (h.0 ∙ sym (sizes_length types (length types))) (λ i p. small_is (slice_index bytes i) (slice_index (sizes types) i) (size_is types bytes none full h i (omega (arith, p, h.0))) (small_index bytes i small))

pub no_fault : (types : List TypeDecl) (bytes : List ℕ) → name_faults types ≡ [] → Each HasMembers types → AllSized types bytes → Each IsSmall bytes → type_fault types ≡ None
no_fault types bytes none full h small =
    let own : bytes ≡ sizes types = sizes_are types bytes none full h small in
    let none_large : flat_map (at_fault Y5 (λ j. nat_lt MAX_STRUCTURE_BYTES (slice_index (sizes types) j))) (range_with_len 0 (length types)) ≡ [] = none_fail Y5 (λ j. nat_lt MAX_STRUCTURE_BYTES (slice_index (sizes types) j)) 0 (length types) (λ j p q. lt_false MAX_STRUCTURE_BYTES (slice_index (sizes types) j) (subst (λ (l : List ℕ). slice_index l j ≤ MAX_STRUCTURE_BYTES) own (small_index bytes j small))) in
    rw (none, cycles_none types bytes h, none_large) refl

pub each_index : (xs : List ℕ) → ((i : ℕ) → i < length xs → slice_index xs i ≤ MAX_STRUCTURE_BYTES) → Each IsSmall xs
each_index [] h = tt
each_index (x ∷ xs) h = (h 0 (omega arith), each_index xs (λ i p. h (suc i) (omega (arith, p))))

pub table_is : (types : List TypeDecl) (bytes : List ℕ) (places : List (List Member)) → length types < 4294967296 → name_faults types ≡ [] → Each HasMembers types → AllSized types bytes → Each IsSmall bytes → places ≡ places_of types → IsTable types bytes places
table_is types bytes places few none full h small laid = record { few = few; members = full; faultless = no_fault types bytes none full h small; sized = sizes_are types bytes none full h small; small = small; laid = laid }
