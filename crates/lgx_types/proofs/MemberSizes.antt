-- Sizes that are worked out member by member.
use Rattle.std.specs.Prelude.{◌≡◌, ℕ, zero, suc, ◌+◌, ◌*◌, ◌<◌, ◌≤◌, ◌⊎◌, Bool, true, false, ◌||◌, ◌==◌, List, [], ◌∷◌, ◌++◌, length, map, drop, flat_map, slice_get, slice_index, Option, Some, None, option_map, unwrap_or, Ok, Err, refl}
use Rattle.std.proofs.Common.{ap, sym, subst, arith, ◌∙◌, get_or, drop-cons, inl, inr, eqb-true, eq-eqb}
use Rattle.spec_language.proofs.Reaching.{or_right}
use Rattle.std.proofs.lemmas.Bool.{or_left}
use Rattle.spec_language.specs.declared.types.Base.{Base}
use Rattle.spec_language.specs.declared.types.Base.TheVariants.{Bool as OneBit, Sint, Int, Dint, Timer, Counter, User}
use Rattle.spec_language.specs.declared.types.DataType.{DataType}
use Rattle.spec_language.specs.declared.types.TypeDecl.{TypeDecl}
use Rattle.spec_language.specs.declared.types.MemberDecl.{MemberDecl}
use Rattle.spec_base.specs.declared.limits.TheConstants.{MAX_STRUCTURE_BYTES}
use Rattle.spec_language.specs.Layout.{find, type_of, round_up, alignment_of, begin_after, element_in, sized_in, size_in, end_from, structure_in, sizes_to, members_of}
use Rattle.spec_language.specs.TypeFaults.{user_number, parts, among, reaches_itself}
use Rattle.spec_base.proofs.Lists.{get_mapped, each_get}
use Rattle.std.specs.List.{AllByRecursion as Each}
use Rattle.std.proofs.lemmas.List.{length-map, get_or_default}
use Rattle.std.proofs.lemmas.Option.{slice_get_past}
use Rattle.lgx_types.specs.Tables.{HasMembers}
use Rattle.spec_language.proofs.SizesSettle.{among_left, among_right, get_there}
use Rattle.lgx_types.specs.declared.sizing.Visit.{Visit}
use Rattle.lgx_types.specs.declared.sizing.Visit.TheVariants.{Unvisited, InProgress, Sized}
use Rattle.lgx_types.specs.declared.sizing.Frame.{Frame}
use Rattle.lgx_types.specs.Outlines.{member_names, outline, outlines_of}
use Rattle.lgx_types.specs.Sizing.{capped, sized_by, end_of, number_of, users, types_at, IsSized, by_visit, element_of, IsBegun, AreVisits}
use Rattle.lgx_types.proofs.Cycles.{alone_by_parts}

-- ---- members and their types

pub end_is : (types : List TypeDecl) (ss : List ℕ) (at : ℕ) (ms : List MemberDecl) → end_from types ss at ms ≡ end_of ss at (outline types ms)
end_is types ss at [] = refl
end_is types ss at (m ∷ ms) = end_is types ss (begin_after at (type_of types m) + size_in ss (type_of types m)) ms

user_is : (o : Option Base) → user_number o ≡ number_of (unwrap_or o OneBit)
user_is None = refl
user_is (Some (User i)) = refl
user_is (Some _) = refl

users_are : (types : List TypeDecl) (ms : List MemberDecl) → flat_map (λ m. user_number (find types m.of)) ms ≡ users (outline types ms)
users_are types [] = refl
users_are types (m ∷ ms) =
    ap (λ (l : List ℕ). l ++ flat_map (λ m. user_number (find types m.of)) ms) (user_is (find types m.of)) ∙ ap (λ (l : List ℕ). number_of (type_of types m).base ++ l) (users_are types ms)

pub parts_are : (types : List TypeDecl) (i : ℕ) → parts types i ≡ users (types_at types i)
parts_are types i = users_are types (members_of types i)

-- ---- sizes that are too large count as one

plus_capped : (a b c d : ℕ) → capped a ≡ capped b → capped c ≡ capped d → capped (a + c) ≡ capped (b + d)
plus_capped a b c d p q = omega (arith, p, q)

same_or_large : (a b : ℕ) → capped a ≡ capped b → (a ≡ b) ⊎ ((MAX_STRUCTURE_BYTES + 1 ≤ a) × (MAX_STRUCTURE_BYTES + 1 ≤ b))
same_or_large a b p = grind (arith, p)

times_capped : (n c d : ℕ) → capped c ≡ capped d → capped (suc n * c) ≡ capped (suc n * d)
times_capped n c d p = go (same_or_large c d p)
  where
    go : (c ≡ d) ⊎ ((MAX_STRUCTURE_BYTES + 1 ≤ c) × (MAX_STRUCTURE_BYTES + 1 ≤ d)) → capped (suc n * c) ≡ capped (suc n * d)
    go (inl e) = ap (λ (k : ℕ). capped (suc n * k)) e
    go (inr e) = omega (arith, e.0, e.1)

round_capped : (a b : ℕ) (base : Base) (dim : ℕ) → capped a ≡ capped b → capped (round_up (alignment_of base dim) a) ≡ capped (round_up (alignment_of base dim) b)
round_capped a b OneBit zero p = omega (arith, p)
round_capped a b OneBit (suc n) p = omega (arith, p)
round_capped a b Sint n p = omega (arith, p)
round_capped a b Int n p = omega (arith, p)
round_capped a b Dint n p = omega (arith, p)
round_capped a b Timer n p = omega (arith, p)
round_capped a b Counter n p = omega (arith, p)
round_capped a b (User i) n p = omega (arith, p)

pub four_capped : (a b : ℕ) → capped a ≡ capped b → capped (round_up 4 a) ≡ capped (round_up 4 b)
four_capped a b p = omega (arith, p)

size_capped : (ss : List ℕ) (base : Base) (dim element : ℕ) → capped element ≡ capped (element_in ss base) → capped (sized_by element base dim) ≡ capped (sized_in ss base dim)
size_capped ss base zero element p = p
size_capped ss OneBit (suc n) element p = refl
size_capped ss Sint (suc n) element p = times_capped n element 1 p
size_capped ss Int (suc n) element p = times_capped n element 2 p
size_capped ss Dint (suc n) element p = times_capped n element 4 p
size_capped ss Timer (suc n) element p = times_capped n element 16 p
size_capped ss Counter (suc n) element p = times_capped n element 12 p
size_capped ss (User i) (suc n) element p = times_capped n element (slice_index ss i) p

end_capped : (ss : List ℕ) (a b : ℕ) (ts : List DataType) → capped a ≡ capped b → capped (end_of ss a ts) ≡ capped (end_of ss b ts)
end_capped ss a b [] p = p
end_capped ss a b (t ∷ ts) p = end_capped ss (begin_after a t + size_in ss t) (begin_after b t + size_in ss t) ts (plus_capped (begin_after a t) (begin_after b t) (size_in ss t) (size_in ss t) (round_capped a b t.base t.dim p) refl)

capped_twice : (n : ℕ) → capped (capped n) ≡ capped n
capped_twice n = omega arith

next_end : (ss : List ℕ) (at element : ℕ) (t : DataType) (rest : List DataType) → capped element ≡ capped (element_in ss t.base) → capped (end_of ss (capped (begin_after at t + sized_by element t.base t.dim)) rest) ≡ capped (end_of ss at (t ∷ rest))
next_end ss at element t rest p =
    end_capped ss (capped (begin_after at t + sized_by element t.base t.dim)) (begin_after at t + size_in ss t) rest (capped_twice (begin_after at t + sized_by element t.base t.dim) ∙ plus_capped (begin_after at t) (begin_after at t) (sized_by element t.base t.dim) (size_in ss t) refl (size_capped ss t.base t.dim element p))

-- ---- the next member

-- from some number of rounds on this is the size of an element, and a structure doesn't reach itself
pub record IsElement (types : List TypeDecl) (base : Base) (element : ℕ) : Type 0 where
  pub alone : (j : ℕ) → among (number_of base) j ≡ true → reaches_itself types j ≡ false
  pub start : ℕ
  pub rounds : (k : ℕ) → start ≤ k → capped element ≡ capped (element_in (sizes_to k types) base)

built_in_element : (types : List TypeDecl) (base : Base) (n e : ℕ) → number_of base ≡ [] → ((k : ℕ) → element_in (sizes_to k types) base ≡ n) → n ≡ e → IsElement types base e
built_in_element types base n e p q same =
    record { alone = λ j s. absurd (cc (subst (λ (l : List ℕ). among l j ≡ true) p s)); start = 0; rounds = λ k h. ap capped (sym same ∙ sym (q k)) }

pub element_is : (types : List TypeDecl) (visits : List Visit) (base : Base) (e : ℕ) → AreVisits types visits → element_of visits base ≡ Ok e → IsElement types base e
element_is types visits OneBit e h p = built_in_element types OneBit 1 e refl (λ k. refl) (cc p)
element_is types visits Sint e h p = built_in_element types Sint 1 e refl (λ k. refl) (cc p)
element_is types visits Int e h p = built_in_element types Int 2 e refl (λ k. refl) (cc p)
element_is types visits Dint e h p = built_in_element types Dint 4 e refl (λ k. refl) (cc p)
element_is types visits Timer e h p = built_in_element types Timer 16 e refl (λ k. refl) (cc p)
element_is types visits Counter e h p = built_in_element types Counter 12 e refl (λ k. refl) (cc p)
element_is types visits (User i) e h p = go (slice_get visits i) refl p
  where
    only : reaches_itself types i ≡ false → (j : ℕ) → ((i == j) || false) ≡ true → reaches_itself types j ≡ false
    only a j q = at (i == j) refl q
      where
        at : (b : Bool) → (i == j) ≡ b → (b || false) ≡ true → reaches_itself types j ≡ false
        at true f r = subst (λ (z : ℕ). reaches_itself types z ≡ false) (eqb-true i j f) a
        at false f r = absurd (cc r)

    go : (o : Option Visit) → slice_get visits i ≡ o → by_visit i o ≡ Ok e → IsElement types (User i) e
    go None g q = absurd (cc q)
    go (Some Unvisited) g q = absurd (cc q)
    go (Some InProgress) g q = absurd (cc q)
    go (Some (Sized s)) g q =
        let same : s ≡ e = cc q in
        let known : IsSized types i s = h.sized i s g in
        record { alone = only known.alone; start = known.start; rounds = λ k b. ap capped (sym same) ∙ known.rounds k b }

pub among_both : (xs ys : List ℕ) (P : ℕ → Type 0) → ((j : ℕ) → among xs j ≡ true → P j) → ((j : ℕ) → among ys j ≡ true → P j) → (j : ℕ) → among (xs ++ ys) j ≡ true → P j
among_both [] ys P f g j p = g j p
among_both (x ∷ xs) ys P f g j p = go (x == j) refl p (among_both xs ys P (λ i r. f i (or_right (x == i) _ r)) g j)
  where
    go : (b : Bool) → (x == j) ≡ b → (b || among (xs ++ ys) j) ≡ true → (among (xs ++ ys) j ≡ true → P j) → P j
    go true e q known = f j (or_left (x == j) _ e)
    go false e q known = known q

frame_is : (g : Frame) (s n a : ℕ) → g.structure ≡ s → g.next ≡ n → g.at ≡ a → record { structure = s; next = n; at = a } ≡ g
frame_is g s n a p q r = rw (← p, ← q, ← r) refl

-- a structure whose size isn't known yet is a part
err_is : (visits : List Visit) (base : Base) (j : ℕ) → element_of visits base ≡ Err j → among (number_of base) j ≡ true
err_is visits OneBit j p = absurd (cc p)
err_is visits Sint j p = absurd (cc p)
err_is visits Int j p = absurd (cc p)
err_is visits Dint j p = absurd (cc p)
err_is visits Timer j p = absurd (cc p)
err_is visits Counter j p = absurd (cc p)
err_is visits (User i) j p = go (slice_get visits i) p
  where
    same : i ≡ j → ((i == j) || false) ≡ true
    same e = or_left (i == j) false (eq-eqb i j e)

    go : (o : Option Visit) → by_visit i o ≡ Err j → ((i == j) || false) ≡ true
    go None q = same (cc q)
    go (Some Unvisited) q = same (cc q)
    go (Some InProgress) q = same (cc q)
    go (Some (Sized s)) q = absurd (cc q)

pub among_at : (ts : List DataType) (k : ℕ) (t : DataType) (j : ℕ) → k < length ts → t ≡ get_or ts k t → among (number_of t.base) j ≡ true → among (users ts) j ≡ true
among_at [] k t j h g p = absurd (omega (arith, h))
among_at (x ∷ ts) zero t j h g p = among_left (number_of x.base) (users ts) j (subst (λ (y : DataType). among (number_of y.base) j ≡ true) g p)
among_at (x ∷ ts) (suc k) t j h g p = among_right (number_of x.base) (users ts) j (among_at ts k t j (omega (arith, h)) g p)

pub inner_part : (types : List TypeDecl) (visits : List Visit) (i k : ℕ) (t : DataType) (j : ℕ) → k < length (types_at types i) → t ≡ get_or (types_at types i) k t → element_of visits t.base ≡ Err j → among (parts types i) j ≡ true
inner_part types visits i k t j h g p = subst (λ (l : List ℕ). among l j ≡ true) (sym (parts_are types i)) (among_at (types_at types i) k t j h g (err_is visits t.base j p))

pub begun_more : (types : List TypeDecl) (visits : List Visit) (f : Frame) (t : DataType) (e : ℕ) → AreVisits types visits → IsBegun types f → f.next < length (types_at types f.structure) → t ≡ get_or (types_at types f.structure) f.next t → element_of visits t.base ≡ Ok e → (g : Frame) → g.structure ≡ f.structure → g.next ≡ suc f.next → g.at ≡ capped (begin_after f.at t + sized_by e t.base t.dim) → IsBegun types g
begun_more types visits f t e h b long here p g same next at =
    let ts : List DataType = types_at types f.structure in
    let one : drop f.next ts ≡ t ∷ drop (suc f.next) ts = drop-cons ts f.next t long ∙ ap (λ (x : DataType). x ∷ drop (suc f.next) ts) (sym here) in
    let known : IsElement types t.base e = element_is types visits t.base e h p in
    let alone : ((j : ℕ) → among (users (drop (suc f.next) ts)) j ≡ true → reaches_itself types j ≡ false) → (j : ℕ) → among (users ts) j ≡ true → reaches_itself types j ≡ false = λ rest. b.alone (subst (λ (l : List DataType). (j : ℕ) → among (users l) j ≡ true → reaches_itself types j ≡ false) (sym one) (among_both (number_of t.base) (users (drop (suc f.next) ts)) (λ j. reaches_itself types j ≡ false) known.alone rest)) in
    let rounds : (k : ℕ) → b.start + known.start ≤ k → capped (end_of (sizes_to k types) (capped (begin_after f.at t + sized_by e t.base t.dim)) (drop (suc f.next) ts)) ≡ capped (end_of (sizes_to k types) 0 ts) = λ k q. next_end (sizes_to k types) f.at e t (drop (suc f.next) ts) (known.rounds k (omega (arith, q))) ∙ subst (λ (l : List DataType). capped (end_of (sizes_to k types) f.at l) ≡ capped (end_of (sizes_to k types) 0 ts)) one (b.rounds k (omega (arith, q))) in
    let x : Frame = record { structure = f.structure; next = suc f.next; at = capped (begin_after f.at t + sized_by e t.base t.dim) } in
    let is : x ≡ g = frame_is g f.structure (suc f.next) (capped (begin_after f.at t + sized_by e t.base t.dim)) same next at in
    subst (λ (y : Frame). IsBegun types y) is (record { there = b.there; low = omega arith; alone = alone; start = b.start + known.start; rounds = rounds })

-- ---- as the loop has it

here_is : (ts us : List DataType) (k n : ℕ) (d : DataType) → us ≡ ts → n ≡ k → k < length us → get_or us k d ≡ get_or ts n (get_or us k d)
here_is ts us k n d p q h = rw (q, ← p) (get_or_default us k d (get_or us k d) h)

pub begun_next : (types : List TypeDecl) (visits : List Visit) (us : List DataType) (f : Frame) (k : ℕ) (d : DataType) (e : ℕ) → AreVisits types visits → IsBegun types f → us ≡ types_at types f.structure → f.next ≡ k → k < length us → element_of visits (get_or us k d).base ≡ Ok e → (at : ℕ) → at ≡ capped (begin_after f.at (get_or us k d) + sized_by e (get_or us k d).base (get_or us k d).dim) → IsBegun types (record { structure = f.structure; next = k + 1; at = at })
begun_next types visits us f k d e h b is place long p at q =
    let low : f.next < length (types_at types f.structure) = rw (place, ← is) long in
    begun_more types visits f (get_or us k d) e h b low (here_is (types_at types f.structure) us k f.next d is place long) p (record { structure = f.structure; next = k + 1; at = at }) refl (omega (arith, place)) q

pub inner_next : (types : List TypeDecl) (visits : List Visit) (us : List DataType) (i k : ℕ) (d : DataType) (j : ℕ) → us ≡ types_at types i → k < length us → element_of visits (get_or us k d).base ≡ Err j → among (parts types i) j ≡ true
inner_next types visits us i k d j is long p =
    let low : k < length (types_at types i) = rw (← is) long in
    inner_part types visits i k (get_or us k d) j low (here_is (types_at types i) us k k d is refl long) p

mapped_at : {B : Type 0} (f : List MemberDecl → B) (types : List TypeDecl) (i : ℕ) (d : B) → i < length types → get_or (map (λ o. f o.members) types) i d ≡ f (members_of types i)
mapped_at f [] i d h = absurd (omega (arith, h))
mapped_at f (x ∷ ds) zero d h = refl
mapped_at f (x ∷ ds) (suc i) d h = mapped_at f ds i d (omega (arith, h))

pub typed_at : (types : List TypeDecl) (outlines : List (List DataType)) (i : ℕ) (d : List DataType) → outlines ≡ outlines_of types → i < length types → get_or outlines i d ≡ types_at types i
typed_at types outlines i d p h = rw p (mapped_at (outline types) types i d h)

pub named_at : (types : List TypeDecl) (names : List (List (List ℕ))) (i : ℕ) (d : List (List ℕ)) → names ≡ map (λ d. member_names d.members) types → i < length types → get_or names i d ≡ member_names (members_of types i)
named_at types names i d p h = rw p (mapped_at member_names types i d h)

pub no_members : (types : List TypeDecl) (i : ℕ) → length types ≤ i → members_of types i ≡ []
no_members types i h = ap (λ (o : Option TypeDecl). unwrap_or (option_map (λ d. d.members) o) []) (slice_get_past types i h)

-- ---- all members

pub sized_at_end : (types : List TypeDecl) (f : Frame) → IsBegun types f → drop f.next (types_at types f.structure) ≡ [] → IsSized types f.structure (round_up 4 f.at)
sized_at_end types f b none = record {
  alone = alone_by_parts types f.structure (subst (λ (l : List ℕ). (j : ℕ) → among l j ≡ true → reaches_itself types j ≡ false) (sym (parts_are types f.structure)) (b.alone (subst (λ (l : List DataType). (j : ℕ) → among (users l) j ≡ true → reaches_itself types j ≡ false) (sym none) (λ j p. absurd (cc p)))));
  start = suc b.start;
  rounds = rounds;
}
  where
    rounds : (k : ℕ) → suc b.start ≤ k → capped (round_up 4 f.at) ≡ capped (slice_index (sizes_to k types) f.structure)
    rounds zero h = absurd (omega (arith, h))
    rounds (suc k) h =
        let (d, got) = get_there types f.structure b.there in
        let own : slice_index (sizes_to (suc k) types) f.structure ≡ structure_in types (sizes_to k types) d = get_mapped (structure_in types (sizes_to k types)) types f.structure d got in
        let ms : members_of types f.structure ≡ d.members = ap (λ (o : Option TypeDecl). unwrap_or (option_map (λ d. d.members) o) []) got in
        let ends : end_from types (sizes_to k types) 0 d.members ≡ end_of (sizes_to k types) 0 (types_at types f.structure) = end_is types (sizes_to k types) 0 d.members ∙ ap (λ (l : List MemberDecl). end_of (sizes_to k types) 0 (outline types l)) (sym ms) in
        let here : capped f.at ≡ capped (end_of (sizes_to k types) 0 (types_at types f.structure)) = subst (λ (l : List DataType). capped (end_of (sizes_to k types) f.at l) ≡ capped (end_of (sizes_to k types) 0 (types_at types f.structure))) none (b.rounds k (omega (arith, h))) in
        four_capped f.at (end_of (sizes_to k types) 0 (types_at types f.structure)) here ∙ ap (λ (n : ℕ). capped (round_up 4 n)) (sym ends) ∙ ap capped (sym own)

-- ---- how many members

pub few_at : (types : List TypeDecl) (i : ℕ) → Each HasMembers types → length (types_at types i) < 4294967296
few_at types i h = rw (length-map (members_of types i) (type_of types)) (go (slice_get types i) refl)
  where
    go : (o : Option TypeDecl) → slice_get types i ≡ o → length (unwrap_or (option_map (λ d. d.members) o) []) < 4294967296
    go None p = omega arith
    go (Some d) p = (each_get HasMembers types i d h p).1
