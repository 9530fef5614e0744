-- The sizes of structures without a fault have settled.
use Rattle.std.specs.Prelude.{map, ◌≡◌, ℕ, zero, suc, ◌+◌, ◌*◌, ◌%◌, ◌<◌, ◌≤◌, Bool, true, false, not, ◌&&◌, ◌||◌, ◌==◌, eqb, List, [], ◌∷◌, ◌++◌, length, flat_map, slice_get, slice_index, Option, Some, None, option_map, unwrap_or, is_none, refl}
use Rattle.std.specs.List.{AllByRecursion as Each, IsDistinct, list_any, enumerate_from, range_with_len}
use Rattle.std.proofs.Common.{ap, sym, subst, arith, eqb-true, eq-eqb}
use Rattle.std.proofs.lemmas.Bool.{or_right}
use Rattle.std.proofs.lemmas.Map.Steps.{length-le_from_distinct_below}
use Rattle.spec_language.specs.declared.types.Base.{Base}
use Rattle.spec_language.specs.declared.types.Base.TheVariants.{Bool as OneBit, Sint, Int, Dint, Timer, Counter, User}
use Rattle.spec_language.specs.declared.types.DataType.{DataType}
use Rattle.spec_language.specs.declared.types.TypeDecl.{TypeDecl}
use Rattle.spec_language.specs.declared.types.MemberDecl.{MemberDecl}
use Rattle.spec_base.specs.FirstCause.{where_true, first}
use Rattle.spec_language.specs.Layout.{find, type_of, round_up, sized_in, size_in, begin_after, end_from, structure_in, sizes_to, sizes}
use Rattle.std.proofs.lemmas.List.{ext_get_or, length-map}
use Rattle.std.proofs.Math.ListN.{length-replicate}
use Rattle.spec_language.specs.declared.types.TypeCode.TheVariants.{Y2, Y3, Y6}
use Rattle.spec_language.specs.TypeFaults.{type_fault, member_faults, structure_faults, name_taken, repeated, of_member, of_structure, is_bool_base, user_number, parts, among, reached_to, reaches_itself, type_faults}
use Rattle.spec_language.specs.LayoutLaws.{IsEvenOf, IsEven, HasBytes, IsSoundType, FaultlessIsSound, SizesAreTheOnly}
use Rattle.spec_base.proofs.Lists.{each_map, each_get, get_mapped}
use Rattle.spec_language.proofs.TypesFit.{end_grows}
use Rattle.spec_language.proofs.Reaching.{among_numbers, find_there, parts_there, reach_more, reach_later}

-- ---- sizes by sizes

-- the structures that members are of
abbrev users : List TypeDecl → List MemberDecl → List ℕ
users types ms = flat_map (λ m. user_number (find types m.of)) ms

pub among_left : (xs ys : List ℕ) (j : ℕ) → among xs j ≡ true → among (xs ++ ys) j ≡ true
among_left [] ys j p = absurd (cc p)
among_left (x ∷ xs) ys j p = go (x == j) p (among_left xs ys j)
  where
    go : (b : Bool) → (b || among xs j) ≡ true → (among xs j ≡ true → among (xs ++ ys) j ≡ true) → (b || among (xs ++ ys) j) ≡ true
    go true q known = refl
    go false q known = known q

pub among_right : (xs ys : List ℕ) (j : ℕ) → among ys j ≡ true → among (xs ++ ys) j ≡ true
among_right [] ys j p = p
among_right (x ∷ xs) ys j p = or_right (x == j) _ (among_right xs ys j p)

pub user_among : (o : Option Base) (j : ℕ) → unwrap_or o OneBit ≡ User j → among (user_number o) j ≡ true
user_among None j p = absurd (cc p)
user_among (Some OneBit) j p = absurd (cc p)
user_among (Some Sint) j p = absurd (cc p)
user_among (Some Int) j p = absurd (cc p)
user_among (Some Dint) j p = absurd (cc p)
user_among (Some Timer) j p = absurd (cc p)
user_among (Some Counter) j p = absurd (cc p)
user_among (Some (User i)) j p = same_number (eq-eqb i j (cc p))
  where
    same_number : (i == j) ≡ true → ((i == j) || false) ≡ true
    same_number q = rw q refl

pub sized_same : (A B : List ℕ) (base : Base) (dim : ℕ) → ((j : ℕ) → base ≡ User j → slice_index A j ≡ slice_index B j) → sized_in A base dim ≡ sized_in B base dim
sized_same A B (User j) zero h = h j refl
sized_same A B (User j) (suc n) h = ap (λ (k : ℕ). suc n * k) (h j refl)
sized_same A B _ zero h = refl
sized_same A B _ (suc n) h = refl

pub sized_some : (A : List ℕ) (base : Base) (dim : ℕ) → IsEvenOf base dim → ((j : ℕ) → base ≡ User j → 0 < slice_index A j) → 0 < sized_in A base dim
sized_some A (User j) zero e h = h j refl
sized_some A (User j) (suc n) e h = omega (arith, h j refl)
sized_some A OneBit zero e h = omega arith
sized_some A OneBit (suc n) e h = omega arith
sized_some A _ zero e h = omega arith
sized_some A _ (suc n) e h = omega arith

pub end_same : (types : List TypeDecl) (A B : List ℕ) (at : ℕ) (ms : List MemberDecl) → ((j : ℕ) → among (users types ms) j ≡ true → slice_index A j ≡ slice_index B j) → end_from types A at ms ≡ end_from types B at ms
end_same types A B at [] h = refl
end_same types A B at (m ∷ ms) h =
    let of : DataType = type_of types m in
    let begin : ℕ = begin_after at of in
    let one : size_in A of ≡ size_in B of = sized_same A B of.base of.dim (λ j q. h j (among_left (user_number (find types m.of)) (users types ms) j (user_among (find types m.of) j q))) in
    subst (λ (n : ℕ). end_from types A (begin + size_in A of) ms ≡ end_from types B (begin + n) ms) one (end_same types A B (begin + size_in A of) ms (λ j q. h j (among_right (user_number (find types m.of)) (users types ms) j q)))

pub end_some : (types : List TypeDecl) (A : List ℕ) (ms : List MemberDecl) → 0 < length ms → Each (λ m. IsEven (type_of types m)) ms → ((j : ℕ) → among (users types ms) j ≡ true → 0 < slice_index A j) → 0 < end_from types A 0 ms
end_some types A [] f e h = absurd (omega arith)
end_some types A (m ∷ ms) f e h =
    let of : DataType = type_of types m in
    let begin : ℕ = begin_after 0 of in
    let one : 0 < size_in A of = sized_some A of.base of.dim e.0 (λ j q. h j (among_left (user_number (find types m.of)) (users types ms) j (user_among (find types m.of) j q))) in
    omega (arith, one, end_grows types A (begin + size_in A of) ms)

pub get_there : (types : List TypeDecl) (i : ℕ) → i < length types → (d : TypeDecl) × (slice_get types i ≡ Some d)
get_there [] i h = absurd (omega arith)
get_there (d ∷ ds) zero h = (d, refl)
get_there (d ∷ ds) (suc i) h = get_there ds i (omega arith)

-- ---- a chain of structures, each a part of the one before

-- structures that lead to structure i, no two of them the same
pub record Chain (types : List TypeDecl) (above : List ℕ) (i : ℕ) : Type 0 where
  pub there : i < length types
  pub below : Each (λ u. u < length types) above
  pub distinct : IsDistinct eqb above
  pub lead : Each (λ u. among (reached_to (length above) types u) i ≡ true) above
  pub new : Each (λ u. eqb i u ≡ false) above

pub each_any : (P : ℕ → Type 0) (xs : List ℕ) (q : ℕ) → Each P xs → list_any (eqb q) xs ≡ true → P q
each_any P [] q p h = absurd (cc h)
each_any P (x ∷ xs) q p h = go (eqb q x) refl h (each_any P xs q p.1)
  where
    go : (b : Bool) → eqb q x ≡ b → (b || list_any (eqb q) xs) ≡ true → (list_any (eqb q) xs ≡ true → P q) → P q
    go true e r known = subst P (sym (eqb-true q x e)) p.0
    go false e r known = known r

pub distinct_more : (i : ℕ) (xs : List ℕ) → Each (λ u. eqb i u ≡ false) xs → IsDistinct eqb xs → IsDistinct eqb (i ∷ xs)
unfolding IsDistinct
distinct_more i xs p q = (p, q)

pub chain_length : (types : List TypeDecl) (above : List ℕ) (i : ℕ) → Chain types above i → suc (length above) ≤ length types
chain_length types above i c = length-le_from_distinct_below (i ∷ above) (length types) (distinct_more i above c.new c.distinct) (λ q h. each_any (λ u. u < length types) (i ∷ above) q (c.there, c.below) h)

-- no structure reaches itself
abbrev NoRings : List TypeDecl → Type 0
NoRings types = (j : ℕ) → j < length types → reaches_itself types j ≡ false

pub each_two : (P Q : ℕ → Type 0) (xs : List ℕ) → ((x : ℕ) → P x → Q x) → Each P xs → Each Q xs
each_two P Q xs f p = each_map P Q xs f p

-- a part of the last structure goes on with the chain
pub chain_more : (types : List TypeDecl) (above : List ℕ) (i j : ℕ) → NoRings types → Chain types above i → among (parts types i) j ≡ true → Chain types (i ∷ above) j
chain_more types above i j none c q =
    let there : j < length types = parts_there types i j q in
    let lead : Each (λ u. among (reached_to (suc (length above)) types u) j ≡ true) (i ∷ above) = (reach_later types (suc (length above)) 0 i j (omega arith) there q, each_map (λ u. among (reached_to (length above) types u) i ≡ true) (λ u. among (reached_to (suc (length above)) types u) j ≡ true) above (λ u p. reach_more types (length above) u i j p q) c.lead) in
    record { there = there; below = (c.there, c.below); distinct = distinct_more i above c.new c.distinct; lead = lead; new = each_map (λ u. among (reached_to (suc (length above)) types u) j ≡ true) (λ u. eqb j u ≡ false) (i ∷ above) (λ u p. apart u p (eqb j u) refl) lead }
  where
    apart : (u : ℕ) → among (reached_to (suc (length above)) types u) j ≡ true → (b : Bool) → eqb j u ≡ b → eqb j u ≡ false
    apart u p false e = e
    apart u p true e =
        let round : among (reached_to (suc (length above)) types j) j ≡ true = subst (λ (k : ℕ). among (reached_to (suc (length above)) types k) j ≡ true) (sym (eqb-true j u e)) p in
        absurd (cc (none j (parts_there types i j q), reach_later types (length types) (suc (length above)) j j (chain_length types above i c) (parts_there types i j q) round))

-- ---- the rounds

pub settles : (types : List TypeDecl) → NoRings types → Each (λ d. 0 < length d.members) types → Each (λ d. Each (λ m. IsEven (type_of types m)) d.members) types → (k : ℕ) (above : List ℕ) (i : ℕ) → Chain types above i → length types ≤ length above + k → (slice_index (sizes_to k types) i ≡ slice_index (sizes_to (suc k) types) i) × (0 < slice_index (sizes_to k types) i)
settles types none full even zero above i c h = absurd (omega (arith, chain_length types above i c, h))
settles types none full even (suc k) above i c h =
    let (d, got) = get_there types i c.there in
    let known : (j : ℕ) → among (users types d.members) j ≡ true → (slice_index (sizes_to k types) j ≡ slice_index (sizes_to (suc k) types) j) × (0 < slice_index (sizes_to k types) j) = λ j q. settles types none full even k (i ∷ above) j (chain_more types above i j none c (subst (λ (o : Option TypeDecl). among (users types (unwrap_or (option_map (λ d. d.members) o) [])) j ≡ true) (sym got) q)) (omega (arith, h)) in
    let before : slice_index (sizes_to (suc k) types) i ≡ structure_in types (sizes_to k types) d = get_mapped (structure_in types (sizes_to k types)) types i d got in
    let after : slice_index (sizes_to (suc (suc k)) types) i ≡ structure_in types (sizes_to (suc k) types) d = get_mapped (structure_in types (sizes_to (suc k) types)) types i d got in
    let ends : end_from types (sizes_to k types) 0 d.members ≡ end_from types (sizes_to (suc k) types) 0 d.members = end_same types (sizes_to k types) (sizes_to (suc k) types) 0 d.members (λ j q. (known j q).0) in
    let some : 0 < end_from types (sizes_to k types) 0 d.members = end_some types (sizes_to k types) d.members (each_get (λ d. 0 < length d.members) types i d full got) (each_get (λ d. Each (λ m. IsEven (type_of types m)) d.members) types i d even got) (λ j q. (known j q).1) in
    (cc (before, after, ap (round_up 4) ends), omega (arith, before, some))

-- sizes that members give with these same sizes are those of the rounds
pub agrees : (types : List TypeDecl) (others : List ℕ) → NoRings types → map (structure_in types others) types ≡ others → (k : ℕ) (above : List ℕ) (i : ℕ) → Chain types above i → length types ≤ length above + k → slice_index others i ≡ slice_index (sizes_to k types) i
agrees types others none given zero above i c h = absurd (omega (arith, chain_length types above i c, h))
agrees types others none given (suc k) above i c h =
    let (d, got) = get_there types i c.there in
    let known : (j : ℕ) → among (users types d.members) j ≡ true → slice_index others j ≡ slice_index (sizes_to k types) j = λ j q. agrees types others none given k (i ∷ above) j (chain_more types above i j none c (subst (λ (o : Option TypeDecl). among (users types (unwrap_or (option_map (λ d. d.members) o) [])) j ≡ true) (sym got) q)) (omega (arith, h)) in
    let here : slice_index (map (structure_in types others) types) i ≡ structure_in types others d = get_mapped (structure_in types others) types i d got in
    let own : slice_index others i ≡ structure_in types others d = subst (λ (xs : List ℕ). slice_index xs i ≡ structure_in types others d) given here in
    let round : slice_index (sizes_to (suc k) types) i ≡ structure_in types (sizes_to k types) d = get_mapped (structure_in types (sizes_to k types)) types i d got in
    let ends : end_from types others 0 d.members ≡ end_from types (sizes_to k types) 0 d.members = end_same types others (sizes_to k types) 0 d.members known in
    cc (own, round, ap (round_up 4) ends)

-- ---- from no fault

pub first_none : {A : Type 0} (xs : List A) → first xs ≡ None → xs ≡ []
first_none [] p = refl
first_none (x ∷ xs) p = absurd (cc p)

pub append_none : {A : Type 0} (xs ys : List A) → (xs ++ ys) ≡ [] → (xs ≡ []) × (ys ≡ [])
append_none [] ys p = (refl, p)
append_none (x ∷ xs) ys p = absurd (cc p)

pub where_none : {A : Type 0} (b : Bool) (x : A) → where_true b x ≡ [] → b ≡ false
where_none true x p = absurd (cc p)
where_none false x p = refl

pub flat_none : {A : Type 0} (f : ℕ → List A) (xs : List ℕ) (j : ℕ) → flat_map f xs ≡ [] → among xs j ≡ true → f j ≡ []
flat_none f [] j p q = absurd (cc q)
flat_none {A} f (x ∷ xs) j p q = go (x == j) refl q (flat_none f xs j (append_none (f x) (flat_map f xs) p).1)
  where
    go : (b : Bool) → (x == j) ≡ b → (b || among xs j) ≡ true → (among xs j ≡ true → f j ≡ []) → f j ≡ []
    go true e r known = subst (λ (k : ℕ). f k ≡ []) (eqb-true x j e) (append_none (f x) (flat_map f xs) p).0
    go false e r known = known r

pub enumerated_none : {A B : Type 0} (f : ℕ × A → List B) (from : ℕ) (xs : List A) → flat_map f (enumerate_from from xs) ≡ [] → Each (λ x. (k : ℕ) × (f (k, x) ≡ [])) xs
enumerated_none f from [] p = tt
enumerated_none f from (x ∷ xs) p =
    let a = append_none (f (from, x)) (flat_map f (enumerate_from (from + 1) xs)) p in
    ((from, a.0), enumerated_none f (from + 1) xs a.1)

pub even_base : (o : Option Base) (dim : ℕ) → is_none o ≡ false → (is_bool_base o && not (dim % 32 == 0)) ≡ false → IsEvenOf (unwrap_or o OneBit) dim
even_base None dim p q = absurd (cc p)
even_base (Some OneBit) dim p q = eqb-true (dim % 32) 0 (twice (dim % 32 == 0) q)
  where
    twice : (b : Bool) → not b ≡ false → b ≡ true
    twice true r = refl
    twice false r = absurd (cc r)
even_base (Some _) dim p q = tt

pub member_even : (types : List TypeDecl) (i : ℕ) (ms : List MemberDecl) (k : ℕ) (m : MemberDecl) → member_faults types i ms (k, m) ≡ [] → IsEven (type_of types m)
member_even types i ms k m p =
    let a = append_none _ _ (append_none (where_true (repeated ms k m) (of_member Y2 i k)) _ p).1 in
    even_base (find types m.of) m.dim (where_none _ _ a.0) (where_none _ _ a.1)

pub members_even : (types : List TypeDecl) (i : ℕ) (d : TypeDecl) → structure_faults types (i, d) ≡ [] → Each (λ m. IsEven (type_of types m)) d.members
members_even types i d p =
    let a = append_none (where_true (name_taken types i d) (of_structure Y6 i)) _ p in
    each_map (λ m. (k : ℕ) × (member_faults types i d.members (k, m) ≡ [])) (λ m. IsEven (type_of types m)) d.members (λ m h. member_even types i d.members h.0 m h.1) (enumerated_none (member_faults types i d.members) 0 d.members a.1)

pub sizes_length : (types : List TypeDecl) (k : ℕ) → length (sizes_to k types) ≡ length types
sizes_length types zero = length-replicate (length types) 0
sizes_length types (suc k) = length-map types (structure_in types (sizes_to k types))

pub starts : (types : List TypeDecl) (i : ℕ) → i < length types → Chain types [] i
unfolding IsDistinct
starts types i h = record { there = h; below = tt; distinct = tt; lead = tt; new = tt }

pub user_found : (o : Option Base) (j : ℕ) → unwrap_or o OneBit ≡ User j → o ≡ Some (User j)
user_found None j p = absurd (cc p)
user_found (Some b) j p = cc p

pub even_none : (base : Base) → IsEvenOf base 0
even_none OneBit = refl
even_none _ = tt

pub no_rings : (types : List TypeDecl) → type_fault types ≡ None → NoRings types
no_rings types p =
    let a = append_none (flat_map (structure_faults types) (enumerate_from 0 types)) _ (first_none (type_faults types) p) in
    let b = append_none (flat_map (λ i. where_true (reaches_itself types i) (of_structure Y3 i)) (range_with_len 0 (length types))) _ a.1 in
    λ j h. where_none _ _ (flat_none (λ i. where_true (reaches_itself types i) (of_structure Y3 i)) (range_with_len 0 (length types)) j b.0 (among_numbers 0 (length types) j (omega arith) (omega (arith, h))))

pub faultless : FaultlessIsSound
faultless types full p =
    let a = append_none (flat_map (structure_faults types) (enumerate_from 0 types)) _ (first_none (type_faults types) p) in
    let none : NoRings types = no_rings types p in
    let even : Each (λ d. Each (λ m. IsEven (type_of types m)) d.members) types = each_map (λ d. (k : ℕ) × (structure_faults types (k, d) ≡ [])) (λ d. Each (λ m. IsEven (type_of types m)) d.members) types (λ d h. members_even types h.0 d h.1) (enumerated_none (structure_faults types) 0 types a.0) in
    let known : (i : ℕ) → i < length types → (slice_index (sizes types) i ≡ slice_index (sizes_to (suc (length types)) types) i) × (0 < slice_index (sizes types) i) = λ i h. settles types none full even (length types) [] i (starts types i h) (omega arith) in
    let filled : (m : MemberDecl) → HasBytes types (type_of types m) = λ m. sized_some (sizes types) (type_of types m).base 0 (even_none (type_of types m).base) (λ j q. (known j (find_there types m.of j (user_found (find types m.of) j q))).1) in
    record {
      settled = ext_get_or 0 (sizes_to (suc (length types)) types) (sizes types) (cc (sizes_length types (suc (length types)), sizes_length types (length types))) (λ i h. sym (known i (omega (arith, sizes_length types (suc (length types)), h))).0);
      members = each_map (λ d. Each (λ m. IsEven (type_of types m)) d.members) (λ d. Each (λ m. IsSoundType types (type_of types m)) d.members) types (λ d h. each_map (λ m. IsEven (type_of types m)) (λ m. IsSoundType types (type_of types m)) d.members (λ m e. (e, filled m)) h) even;
    }

pub the_only : SizesAreTheOnly
the_only types others p given =
    let long : length others ≡ length types = subst (λ (xs : List ℕ). length xs ≡ length types) given (length-map types (structure_in types others)) in
    ext_get_or 0 others (sizes types) (cc (long, sizes_length types (length types))) (λ i h. agrees types others (no_rings types p) given (length types) [] i (starts types i (omega (arith, long, h))) (omega arith))
