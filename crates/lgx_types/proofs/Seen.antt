-- The search for what a structure reaches.
use Rattle.std.specs.Prelude.{◌≡◌, ◌≢◌, ℕ, zero, suc, ◌+◌, ◌<◌, ◌≤◌, ◌⊎◌, Bool, true, false, cond, ◌||◌, ◌==◌, List, [], ◌∷◌, ◌++◌, length, take, replicate, slice_get, slice_set, Some, refl}
use Rattle.std.proofs.Common.{ap, sym, subst, arith, ◌∙◌, inl, inr, get_or, length-append, append_assoc, eqb-true, eq-eqb}
use Rattle.std.proofs.lemmas.Bool.{or_left}
use Rattle.std.proofs.lemmas.List.Sums.{sum_by-set}
use Rattle.std.proofs.Math.ListN.{length-replicate}
use Rattle.std.proofs.Math.Seq.{take-suc}
use Rattle.std.proofs.lemmas.List.{get_or_default, length-set, take_all}
use Rattle.std.proofs.lemmas.Option.{get_or_from_slice_get, slice_get-get_or, slice_get_within}
use Rattle.spec_language.specs.declared.types.Base.{Base}
use Rattle.spec_language.specs.declared.types.Base.TheVariants.{Bool as OneBit, Sint, Int, Dint, Timer, Counter, User}
use Rattle.spec_language.specs.declared.types.DataType.{DataType}
use Rattle.spec_language.specs.declared.types.TypeDecl.{TypeDecl}
use Rattle.spec_language.specs.TypeFaults.{among, parts, reached_to, reaches_itself}
use Rattle.spec_language.proofs.Reaching.{parts_there, reach_more}
use Rattle.lgx_types.specs.Sizing.{number_of, users, types_at}
use Rattle.lgx_types.specs.Cycles.{Reaches, AllSeen, Keeps, IsSearch, to_see}
use Rattle.lgx_types.proofs.Cycles.{reach_bounded, reach_back}
use Rattle.lgx_types.proofs.MemberSizes.{parts_are, among_both, among_at}
use Rattle.lgx_types.specs.Tables.{IsNumbered}
use Rattle.lgx_types.proofs.SizingStack.{get_split, get_early, get_last, get_set}

-- ---- one structure more

pub get_set_same : {A : Type 0} (xs : List A) (i : ℕ) (y : A) → i < length xs → slice_get (slice_set xs i y) i ≡ Some y
get_set_same [] i y h = absurd (omega (arith, h))
get_set_same (x ∷ xs) zero y h = refl
get_set_same (x ∷ xs) (suc i) y h = get_set_same xs i y (omega (arith, h))

get_set_other : {A : Type 0} (xs : List A) (i j : ℕ) (y x : A) → (i ≡ j → ⊥) → slice_get xs j ≡ Some x → slice_get (slice_set xs i y) j ≡ Some x
get_set_other [] i j y x n h = absurd (cc h)
get_set_other (z ∷ xs) zero zero y x n h = absurd (n refl)
get_set_other (z ∷ xs) zero (suc j) y x n h = h
get_set_other (z ∷ xs) (suc i) zero y x n h = h
get_set_other (z ∷ xs) (suc i) (suc j) y x n h = get_set_other xs i j y x (λ e. n (ap suc e)) h

same_or_not : (i j : ℕ) → (i ≡ j) ⊎ (i ≡ j → ⊥)
same_or_not i j = go (i == j) refl
  where
    go : (b : Bool) → (i == j) ≡ b → (i ≡ j) ⊎ (i ≡ j → ⊥)
    go true e = inl (eqb-true i j e)
    go false e = inr (λ f. absurd (cc (e, eq-eqb i j f)))

pub keeps_set : (seen : List Bool) (x : ℕ) → x < length seen → Keeps seen (slice_set seen x true)
keeps_set seen x h y p = go (same_or_not x y)
  where
    go : (x ≡ y) ⊎ (x ≡ y → ⊥) → slice_get (slice_set seen x true) y ≡ Some true
    go (inl e) = subst (λ (n : ℕ). slice_get (slice_set seen x true) n ≡ Some true) e (get_set_same seen x true h)
    go (inr n) = get_set_other seen x y true true n p

pub less_set : (seen : List Bool) (waiting : List ℕ) (x : ℕ) → x < length seen → get_or seen x false ≡ false → to_see (slice_set seen x true) (waiting ++ x ∷ []) ≤ to_see seen waiting
less_set seen waiting x h p =
    let weight : cond {A = ℕ} (get_or seen x false) 0 2 ≡ 2 = rw p refl in
    omega (arith, weight, sum_by-set (λ (b : Bool). cond b 0 2) seen x true false h, length-append waiting (x ∷ []))

pub search_set : (types : List TypeDecl) (i j : ℕ) (seen : List Bool) (waiting : List ℕ) (x : ℕ) → x < length seen → IsSearch types i j seen waiting → Reaches types i x → IsSearch types i j (slice_set seen x true) (waiting ++ x ∷ [])
search_set types i j seen waiting x h s r = record {
  many = length-set seen x true ∙ s.many;
  reached = λ y p. reached y (get_set seen x y true true p);
  waits = λ p y q. waits p y (get_split waiting x p y q);
  gone = λ y p. gone y (get_set seen x y true true p);
}
  where
    reached : (y : ℕ) → ((x ≡ y) × (true ≡ true)) ⊎ ((x ≢ y) × (slice_get seen y ≡ Some true)) → Reaches types i y
    reached y (inl (e, f)) = subst (λ (n : ℕ). Reaches types i n) e r
    reached y (inr (e, f)) = s.reached y f

    waits : (p y : ℕ) → (slice_get waiting p ≡ Some y) ⊎ ((p ≡ length waiting) × (x ≡ y)) → slice_get (slice_set seen x true) y ≡ Some true
    waits p y (inl q) = keeps_set seen x h y (s.waits p y q)
    waits p y (inr (q, e)) = subst (λ (n : ℕ). slice_get (slice_set seen x true) n ≡ Some true) e (get_set_same seen x true h)

    gone : (y : ℕ) → ((x ≡ y) × (true ≡ true)) ⊎ ((x ≢ y) × (slice_get seen y ≡ Some true)) → (y ≡ j) ⊎ (((p : ℕ) × (slice_get (waiting ++ x ∷ []) p ≡ Some y)) ⊎ AllSeen types (slice_set seen x true) y)
    gone y (inl (e, f)) = inr (inl (length waiting, subst (λ (n : ℕ). slice_get (waiting ++ x ∷ []) (length waiting) ≡ Some n) e (get_last waiting x)))
    gone y (inr (e, f)) = go (s.gone y f)
      where
        go : (y ≡ j) ⊎ (((p : ℕ) × (slice_get waiting p ≡ Some y)) ⊎ AllSeen types seen y) → (y ≡ j) ⊎ (((p : ℕ) × (slice_get (waiting ++ x ∷ []) p ≡ Some y)) ⊎ AllSeen types (slice_set seen x true) y)
        go (inl q) = inl q
        go (inr (inl (p, q))) = inr (inl (p, get_early waiting (x ∷ []) p y q))
        go (inr (inr q)) = inr (inr (λ z r. keeps_set seen x h z (q z r)))

-- ---- all parts of a structure

pub own_number : (x y : ℕ) → among (number_of (User x)) y ≡ true → x ≡ y
own_number x y p = go (x == y) refl p
  where
    go : (b : Bool) → (x == y) ≡ b → (b || false) ≡ true → x ≡ y
    go true e q = eqb-true x y e
    go false e q = absurd (cc q)

pub see_new : (seen : List Bool) (x : ℕ) → x < length seen → (y : ℕ) → among (number_of (User x)) y ≡ true → slice_get (slice_set seen x true) y ≡ Some true
see_new seen x h y p = subst (λ (n : ℕ). slice_get (slice_set seen x true) n ≡ Some true) (own_number x y p) (get_set_same seen x true h)

pub see_old : (seen : List Bool) (x : ℕ) → slice_get seen x ≡ Some true → (y : ℕ) → among (number_of (User x)) y ≡ true → slice_get seen y ≡ Some true
see_old seen x h y p = subst (λ (n : ℕ). slice_get seen n ≡ Some true) (own_number x y p) h

-- ---- the end of the search

-- if all parts of structure i are seen and all that is seen is closed, what it reaches is seen
pub reached_seen : (types : List TypeDecl) (i : ℕ) (seen : List Bool) → IsSearch types i (length types) seen [] → AllSeen types seen i → (k x : ℕ) → among (reached_to k types i) x ≡ true → slice_get seen x ≡ Some true
reached_seen types i seen s own zero x p = own x p
reached_seen types i seen s own (suc k) x p = go (reached_seen types i seen s own k) (reach_back types k i x p)
  where
    closed : (y : ℕ) → slice_get seen y ≡ Some true → among (parts types y) x ≡ true → (y ≡ length types) ⊎ (((p : ℕ) × (slice_get {X = ℕ} [] p ≡ Some y)) ⊎ AllSeen types seen y) → slice_get seen x ≡ Some true
    closed y q r (inl e) = absurd (omega (arith, e, slice_get_within seen y true q, s.many))
    closed y q r (inr (inl (p, e))) = absurd (cc e)
    closed y q r (inr (inr e)) = e x r

    go : ((y : ℕ) → among (reached_to k types i) y ≡ true → slice_get seen y ≡ Some true) → (among (reached_to k types i) x ≡ true) ⊎ ((y : ℕ) × ((among (reached_to k types i) y ≡ true) × (among (parts types y) x ≡ true))) → slice_get seen x ≡ Some true
    go known (inl q) = known x q
    go known (inr (y, (q, r))) = closed y (known y q) r (s.gone y (known y q))

pub seen_is : (types : List TypeDecl) (i : ℕ) (seen : List Bool) → i < length types → IsSearch types i (length types) seen [] → AllSeen types seen i → get_or seen i false ≡ reaches_itself types i
seen_is types i seen h s own = go (get_or seen i false) refl (reaches_itself types i) refl
  where
    go : (a : Bool) → get_or seen i false ≡ a → (b : Bool) → reaches_itself types i ≡ b → get_or seen i false ≡ reaches_itself types i
    go true p true q = p ∙ sym q
    go false p false q = p ∙ sym q
    go true p false q =
        let there : slice_get seen i ≡ Some true = slice_get-get_or seen i false (omega (arith, h, s.many)) ∙ ap Some p in
        let (m, r) = s.reached i there in
        absurd (cc (q, reach_bounded types m i i r))
    go false p true q = absurd (cc (p, get_or_from_slice_get seen i true false (reached_seen types i seen s own (length types) i q)))

-- nothing is seen
pub none_seen : (types : List TypeDecl) (i j : ℕ) (seen : List Bool) → seen ≡ replicate (length types) false → IsSearch types i j seen []
none_seen types i j seen e = record {
  many = rw e (length-replicate (length types) false);
  reached = λ x p. absurd (no_true (length types) x (rw e at p));
  waits = λ p x q. absurd (cc q);
  gone = λ x p. absurd (no_true (length types) x (rw e at p));
}
  where
    no_true : (n x : ℕ) → slice_get (replicate n false) x ≡ Some true → ⊥
    no_true zero x h = cc h
    no_true (suc n) zero h = cc h
    no_true (suc n) (suc x) h = no_true n x h

-- a structure that waits is gone on from
pub search_pop : (types : List TypeDecl) (i j : ℕ) (seen : List Bool) (waiting : List ℕ) → IsSearch types i (length types) seen (waiting ++ j ∷ []) → IsSearch types i j seen waiting
search_pop types i j seen waiting s = record {
  many = s.many;
  reached = s.reached;
  waits = λ p x q. s.waits p x (get_early waiting (j ∷ []) p x q);
  gone = λ x p. go x (s.gone x p) p;
}
  where
    go : (x : ℕ) → (x ≡ length types) ⊎ (((p : ℕ) × (slice_get (waiting ++ j ∷ []) p ≡ Some x)) ⊎ AllSeen types seen x) → slice_get seen x ≡ Some true → (x ≡ j) ⊎ (((p : ℕ) × (slice_get waiting p ≡ Some x)) ⊎ AllSeen types seen x)
    go x (inl e) p = absurd (omega (arith, e, slice_get_within seen x true p, s.many))
    go x (inr (inr q)) p = inr (inr q)
    go x (inr (inl (k, q))) p = at (get_split waiting j k x q)
      where
        at : (slice_get waiting k ≡ Some x) ⊎ ((k ≡ length waiting) × (j ≡ x)) → (x ≡ j) ⊎ (((p : ℕ) × (slice_get waiting p ≡ Some x)) ⊎ AllSeen types seen x)
        at (inl r) = inr (inl (k, r))
        at (inr (r, e)) = inl (sym e)

-- once all parts of structure j are seen, none is left out
pub search_all : (types : List TypeDecl) (i j : ℕ) (seen : List Bool) (waiting : List ℕ) → IsSearch types i j seen waiting → AllSeen types seen j → IsSearch types i (length types) seen waiting
search_all types i j seen waiting s own = record { many = s.many; reached = s.reached; waits = s.waits; gone = λ x p. go x (s.gone x p) }
  where
    go : (x : ℕ) → (x ≡ j) ⊎ (((p : ℕ) × (slice_get waiting p ≡ Some x)) ⊎ AllSeen types seen x) → (x ≡ length types) ⊎ (((p : ℕ) × (slice_get waiting p ≡ Some x)) ⊎ AllSeen types seen x)
    go x (inl e) = inr (inr (subst (λ (n : ℕ). AllSeen types seen n) (sym e) own))
    go x (inr q) = inr q

-- what is a part of a structure that is reached is reached
pub part_reached : (types : List TypeDecl) (i j y : ℕ) → (i ≡ j) ⊎ Reaches types i j → among (parts types j) y ≡ true → Reaches types i y
part_reached types i j y (inl e) p = (0, subst (λ (n : ℕ). among (parts types n) y ≡ true) (sym e) p)
part_reached types i j y (inr (m, r)) p = (suc m, reach_more types m i j y r p)

base_part : (types : List TypeDecl) (j k : ℕ) (d : DataType) (us : List DataType) (y : ℕ) → us ≡ types_at types j → k < length us → among (number_of (get_or us k d).base) y ≡ true → among (parts types j) y ≡ true
base_part types j k d us y is long p = subst (λ (l : List ℕ). among l y ≡ true) (sym (parts_are types j)) (subst (λ (l : List DataType). among (users l) y ≡ true) is (among_at us k (get_or us k d) y long (get_or_default us k d (get_or us k d) long) p))

pub own_there : (x : ℕ) → among (number_of (User x)) x ≡ true
own_there x = or_left (x == x) false (eq-eqb x x refl)

pub not_user : (base : Base) (y : ℕ) → ((x : ℕ) → base ≡ User x → ⊥) → among (number_of base) y ≡ true → ⊥
not_user OneBit y n p = cc p
not_user Sint y n p = cc p
not_user Int y n p = cc p
not_user Dint y n p = cc p
not_user Timer y n p = cc p
not_user Counter y n p = cc p
not_user (User x) y n p = n x refl

-- members of structure j are of structures that there are
pub numbered_at : (types : List TypeDecl) (j k : ℕ) (d : DataType) (us : List DataType) → us ≡ types_at types j → k < length us → IsNumbered (length types) (get_or us k d).base
numbered_at types j k d us is long = go (get_or us k d) refl
  where
    go : (t : DataType) → get_or us k d ≡ t → IsNumbered (length types) t.base
    go t e = base t.base refl
      where
        base : (b : Base) → t.base ≡ b → IsNumbered (length types) b
        base OneBit q = tt
        base Sint q = tt
        base Int q = tt
        base Dint q = tt
        base Timer q = tt
        base Counter q = tt
        base (User x) q = parts_there types j x (base_part types j k d us x is long (subst (λ (b : Base). among (number_of b) x ≡ true) (sym q ∙ sym (ap (λ (z : DataType). z.base) e)) (own_there x)))

-- the members before one are of structures that are seen
abbrev pub SeenTo : List DataType → List Bool → ℕ → Type 0
SeenTo us seen k = (y : ℕ) → among (users (take k us)) y ≡ true → slice_get seen y ≡ Some true

users_more : (xs ys : List DataType) → users (xs ++ ys) ≡ users xs ++ users ys
users_more [] ys = refl
users_more (x ∷ xs) ys = ap (λ (l : List ℕ). number_of x.base ++ l) (users_more xs ys) ∙ sym (append_assoc (number_of x.base) (users xs) (users ys))

pub seen_next : (us : List DataType) (old new : List Bool) (k : ℕ) (d : DataType) → k < length us → SeenTo us old k → Keeps old new → ((y : ℕ) → among (number_of (get_or us k d).base) y ≡ true → slice_get new y ≡ Some true) → SeenTo us new (k + 1)
seen_next us old new k d h before keeps own =
    let one : suc k ≡ k + 1 = omega arith in
    let t : DataType = get_or us k d in
    let of : users (take (suc k) us) ≡ users (take k us) ++ (number_of t.base ++ []) = ap users (take-suc us k d h) ∙ users_more (take k us) (t ∷ []) in
    subst (λ (n : ℕ). SeenTo us new n) one (subst (λ (l : List ℕ). (y : ℕ) → among l y ≡ true → slice_get new y ≡ Some true) (sym of) (among_both (users (take k us)) (number_of t.base ++ []) (λ y. slice_get new y ≡ Some true) (λ y p. keeps y (before y p)) (among_both (number_of t.base) [] (λ y. slice_get new y ≡ Some true) own (λ y p. absurd (cc p)))))

pub seen_all : (types : List TypeDecl) (j k : ℕ) (us : List DataType) (seen : List Bool) → us ≡ types_at types j → length us ≤ k → SeenTo us seen k → AllSeen types seen j
seen_all types j k us seen is long h = λ y p. h y (subst (λ (l : List ℕ). among l y ≡ true) (parts_are types j ∙ ap users (sym is ∙ sym (take_all k us long))) p)

pub part_at : (types : List TypeDecl) (i j k : ℕ) (d : DataType) (us : List DataType) → us ≡ types_at types j → k < length us → (i ≡ j) ⊎ Reaches types i j → (y : ℕ) → among (number_of (get_or us k d).base) y ≡ true → Reaches types i y
part_at types i j k d us is long r y p = part_reached types i j y r (base_part types j k d us y is long p)

pub waits_there : (types : List TypeDecl) (i e : ℕ) (seen : List Bool) (waiting : List ℕ) (j : ℕ) → IsSearch types i e seen (waiting ++ j ∷ []) → (j < length types) × Reaches types i j
waits_there types i e seen waiting j s =
    let there : slice_get seen j ≡ Some true = s.waits (length waiting) j (get_last waiting j) in
    (omega (arith, slice_get_within seen j true there, s.many), s.reached j there)

pub to_see_less : (seen new : List Bool) (waiting rest : List ℕ) (j : ℕ) → to_see new rest ≤ to_see seen waiting → to_see new rest < to_see seen (waiting ++ j ∷ [])
to_see_less seen new waiting rest j h = omega (arith, h, length-append waiting (j ∷ []))
