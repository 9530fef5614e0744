-- What structures reach: within as many steps as there are structures, or never.
use Rattle.std.specs.Prelude.{◌≡◌, ℕ, zero, suc, ◌+◌, ◌<◌, ◌≤◌, ◌⊎◌, Bool, true, false, ◌||◌, ◌==◌, List, [], ◌∷◌, length, filter, refl}
use Rattle.std.specs.List.{list_any, range_with_len}
use Rattle.std.proofs.Common.{sym, subst, arith, ◌∙◌, eqb-true, eq-eqb, inl, inr}
use Rattle.std.proofs.lemmas.Bool.{or_left}
use Rattle.std.proofs.lemmas.List.Sums.{count_by-le-length, length-filter}
use Rattle.std.proofs.lemmas.List.FromFn.{length-range_with_len}
use Rattle.spec_language.specs.declared.types.TypeDecl.{TypeDecl}
use Rattle.spec_language.specs.TypeFaults.{parts, among, reached_to, reaches_itself}
use Rattle.spec_language.proofs.Reaching.{or_right, among_numbers, parts_there, reach_more, reach_still, reach_later, each_has, each_among}

-- ---- one step back

either : (a b : Bool) → (a || b) ≡ true → (a ≡ true) ⊎ (b ≡ true)
either true b p = inl refl
either false b p = inr p

any_one : (test : ℕ → Bool) (xs : List ℕ) → list_any test xs ≡ true → (k : ℕ) × ((among xs k ≡ true) × (test k ≡ true))
any_one test [] p = absurd (cc p)
any_one test (x ∷ xs) p = go (test x) refl p (any_one test xs)
  where
    go : (b : Bool) → test x ≡ b → (b || list_any test xs) ≡ true → (list_any test xs ≡ true → (k : ℕ) × ((among xs k ≡ true) × (test k ≡ true))) → (k : ℕ) × ((among (x ∷ xs) k ≡ true) × (test k ≡ true))
    go true e q known = (x, (or_left (x == x) _ (eq-eqb x x refl), e))
    go false e q known = let r = known q in (r.0, (or_right (x == r.0) _ r.1.0, r.1.1))

-- what is in a filtered list is in the list and passes
filtered : (test : ℕ → Bool) (xs : List ℕ) (x : ℕ) → among (filter test xs) x ≡ true → test x ≡ true
filtered test xs x p = each_among (λ j. test j ≡ true) (filter test xs) x (each_has test (λ j. test j ≡ true) xs (λ j q. q)) p

-- reached in one more step: reached before, or a part of what was reached
pub reach_back : (types : List TypeDecl) (k u x : ℕ) → among (reached_to (suc k) types u) x ≡ true → (among (reached_to k types u) x ≡ true) ⊎ ((y : ℕ) × ((among (reached_to k types u) y ≡ true) × (among (parts types y) x ≡ true)))
reach_back types k u x p = go (either _ _ (filtered _ (range_with_len 0 (length types)) x p))
  where
    go : (among (reached_to k types u) x ≡ true) ⊎ (list_any (λ j. among (parts types j) x) (reached_to k types u) ≡ true) → (among (reached_to k types u) x ≡ true) ⊎ ((y : ℕ) × ((among (reached_to k types u) y ≡ true) × (among (parts types y) x ≡ true)))
    go (inl q) = inl q
    go (inr q) = inr (any_one (λ j. among (parts types j) x) (reached_to k types u) q)

pub reach_there : (types : List TypeDecl) (k u x : ℕ) → among (reached_to k types u) x ≡ true → x < length types
reach_there types zero u x p = parts_there types u x p
reach_there types (suc k) u x p = go (reach_there types k u x) (reach_back types k u x p)
  where
    go : (among (reached_to k types u) x ≡ true → x < length types) → (among (reached_to k types u) x ≡ true) ⊎ ((y : ℕ) × ((among (reached_to k types u) y ≡ true) × (among (parts types y) x ≡ true))) → x < length types
    go known (inl q) = known q
    go known (inr q) = parts_there types q.0 x q.1.1

-- what a structure reaches, it reaches by one of its parts
pub first_step : (types : List TypeDecl) (k u x : ℕ) → among (reached_to k types u) x ≡ true → (j : ℕ) × ((among (parts types u) j ≡ true) × ((j ≡ x) ⊎ ((m : ℕ) × (among (reached_to m types j) x ≡ true))))
first_step types zero u x p = (x, (p, inl refl))
first_step types (suc k) u x p = go (first_step types k u) (reach_back types k u x p)
  where
    further : (y : ℕ) → among (parts types y) x ≡ true → (j : ℕ) → (j ≡ y) ⊎ ((m : ℕ) × (among (reached_to m types j) y ≡ true)) → (m : ℕ) × (among (reached_to m types j) x ≡ true)
    further y q j (inl e) = (0, subst (λ (z : ℕ). among (parts types z) x ≡ true) (sym e) q)
    further y q j (inr (m, r)) = (suc m, reach_more types m j y x r q)

    go : ((y : ℕ) → among (reached_to k types u) y ≡ true → (j : ℕ) × ((among (parts types u) j ≡ true) × ((j ≡ y) ⊎ ((m : ℕ) × (among (reached_to m types j) y ≡ true))))) → (among (reached_to k types u) x ≡ true) ⊎ ((y : ℕ) × ((among (reached_to k types u) y ≡ true) × (among (parts types y) x ≡ true))) → (j : ℕ) × ((among (parts types u) j ≡ true) × ((j ≡ x) ⊎ ((m : ℕ) × (among (reached_to m types j) x ≡ true))))
    go known (inl q) = known x q
    go known (inr (y, (q, r))) = let s = known y q in (s.0, (s.1.0, inr (further y r s.0 s.1.1)))

-- ---- sets stop growing

abbrev Stable : List TypeDecl → ℕ → ℕ → Type 0
Stable types u k = (x : ℕ) → among (reached_to (suc k) types u) x ≡ true → among (reached_to k types u) x ≡ true

still_stable : (types : List TypeDecl) (u k : ℕ) → Stable types u k → Stable types u (suc k)
still_stable types u k h x p = go (reach_back types (suc k) u x p)
  where
    go : (among (reached_to (suc k) types u) x ≡ true) ⊎ ((y : ℕ) × ((among (reached_to (suc k) types u) y ≡ true) × (among (parts types y) x ≡ true))) → among (reached_to (suc k) types u) x ≡ true
    go (inl q) = q
    go (inr (y, (q, r))) = reach_more types k u y x (h y q) r

abbrev held : List TypeDecl → ℕ → ℕ → ℕ
held types u k = length (filter (λ x. among (reached_to k types u) x) (range_with_len 0 (length types)))

-- of two tests, one of which passes wherever the other does: either they are the same on a list, or one counts more
counts : (p q : ℕ → Bool) (xs : List ℕ) → ((x : ℕ) → p x ≡ true → q x ≡ true) → (((x : ℕ) → among xs x ≡ true → q x ≡ true → p x ≡ true) × (length (filter p xs) ≤ length (filter q xs))) ⊎ (length (filter p xs) < length (filter q xs))
counts p q [] h = inl ((λ x r s. absurd (cc r)), omega arith)
counts p q (y ∷ ys) h = go (p y) refl (q y) refl (counts p q ys h)
  where
    here : (b : Bool) → q y ≡ b → (b ≡ true → p y ≡ true) → ((x : ℕ) → among ys x ≡ true → q x ≡ true → p x ≡ true) → (x : ℕ) → ((y == x) || among ys x) ≡ true → q x ≡ true → p x ≡ true
    here b e f same x r s = at (y == x) refl r
      where
        at : (c : Bool) → (y == x) ≡ c → (c || among ys x) ≡ true → p x ≡ true
        at true g t = subst (λ (z : ℕ). p z ≡ true) (eqb-true y x g) (f (sym e ∙ subst (λ (z : ℕ). q z ≡ true) (sym (eqb-true y x g)) s))
        at false g t = same x t s

    go : (a : Bool) → p y ≡ a → (b : Bool) → q y ≡ b → (((x : ℕ) → among ys x ≡ true → q x ≡ true → p x ≡ true) × (length (filter p ys) ≤ length (filter q ys))) ⊎ (length (filter p ys) < length (filter q ys)) → (((x : ℕ) → among (y ∷ ys) x ≡ true → q x ≡ true → p x ≡ true) × (length (filter p (y ∷ ys)) ≤ length (filter q (y ∷ ys)))) ⊎ (length (filter p (y ∷ ys)) < length (filter q (y ∷ ys)))
    go true e false f known = absurd (cc (h y e, f))
    go true e true f (inl s) = inl (here true f (λ t. e) s.0, rw (e, f) (omega (arith, s.1)))
    go true e true f (inr s) = inr (rw (e, f) (omega (arith, s)))
    go false e true f (inl s) = inr (rw (e, f) (omega (arith, s.1)))
    go false e true f (inr s) = inr (rw (e, f) (omega (arith, s)))
    go false e false f (inl s) = inl (here false f (λ t. absurd (cc t)) s.0, rw (e, f) s.1)
    go false e false f (inr s) = inr (rw (e, f) s)

grows : (types : List TypeDecl) (u k : ℕ) → Stable types u k ⊎ (k < held types u (suc k))
grows types u zero = go (counts (λ x. among (reached_to 0 types u) x) (λ x. among (reached_to 1 types u) x) (range_with_len 0 (length types)) (λ x p. reach_still types 0 u x (reach_there types 0 u x p) p))
  where
    go : (((x : ℕ) → among (range_with_len 0 (length types)) x ≡ true → among (reached_to 1 types u) x ≡ true → among (reached_to 0 types u) x ≡ true) × (held types u 0 ≤ held types u 1)) ⊎ (held types u 0 < held types u 1) → Stable types u 0 ⊎ (0 < held types u 1)
    go (inl s) = inl (λ x p. s.0 x (among_numbers 0 (length types) x (omega arith) (omega (arith, reach_there types 1 u x p))) p)
    go (inr s) = inr (omega (arith, s))
grows types u (suc k) = go (counts (λ x. among (reached_to (suc k) types u) x) (λ x. among (reached_to (suc (suc k)) types u) x) (range_with_len 0 (length types)) (λ x p. reach_still types (suc k) u x (reach_there types (suc k) u x p) p)) (grows types u k)
  where
    go : (((x : ℕ) → among (range_with_len 0 (length types)) x ≡ true → among (reached_to (suc (suc k)) types u) x ≡ true → among (reached_to (suc k) types u) x ≡ true) × (held types u (suc k) ≤ held types u (suc (suc k)))) ⊎ (held types u (suc k) < held types u (suc (suc k))) → Stable types u k ⊎ (k < held types u (suc k)) → Stable types u (suc k) ⊎ (suc k < held types u (suc (suc k)))
    go s (inl t) = inl (still_stable types u k t)
    go (inl s) (inr t) = inl (λ x p. s.0 x (among_numbers 0 (length types) x (omega arith) (omega (arith, reach_there types (suc (suc k)) u x p))) p)
    go (inr s) (inr t) = inr (omega (arith, s, t))

stable : (types : List TypeDecl) (u : ℕ) → Stable types u (length types)
stable types u = go (grows types u (length types))
  where
    go : Stable types u (length types) ⊎ (length types < held types u (suc (length types))) → Stable types u (length types)
    go (inl s) = s
    go (inr s) = absurd (omega (arith, s, length-filter (λ x. among (reached_to (suc (length types)) types u) x) (range_with_len 0 (length types)), count_by-le-length (λ x. among (reached_to (suc (length types)) types u) x) (range_with_len 0 (length types)), length-range_with_len 0 (length types)))

stable_from : (types : List TypeDecl) (u d : ℕ) → Stable types u (length types + d)
stable_from types u zero = let e : length types ≡ length types + zero = omega arith in subst (λ (n : ℕ). Stable types u n) e (stable types u)
stable_from types u (suc d) = let e : suc (length types + d) ≡ length types + suc d = omega arith in subst (λ (n : ℕ). Stable types u n) e (still_stable types u (length types + d) (stable_from types u d))

-- reached in any number of steps is reached in as many as there are structures
reach_from : (types : List TypeDecl) (u x d : ℕ) → among (reached_to (length types + d) types u) x ≡ true → among (reached_to (length types) types u) x ≡ true
reach_from types u x zero p = let e : length types + zero ≡ length types = omega arith in subst (λ (n : ℕ). among (reached_to n types u) x ≡ true) e p
reach_from types u x (suc d) p =
    let one : length types + suc d ≡ suc (length types + d) = omega arith in
    reach_from types u x d (stable_from types u d x (subst (λ (n : ℕ). among (reached_to n types u) x ≡ true) one p))

pub reach_bounded : (types : List TypeDecl) (k u x : ℕ) → among (reached_to k types u) x ≡ true → among (reached_to (length types) types u) x ≡ true
reach_bounded types k u x p = reach_from types u x k (reach_later types (length types + k) k u x (omega arith) (reach_there types k u x p) p)

-- a structure whose parts don't reach themselves doesn't either
pub alone_by_parts : (types : List TypeDecl) (i : ℕ) → ((j : ℕ) → among (parts types i) j ≡ true → reaches_itself types j ≡ false) → reaches_itself types i ≡ false
alone_by_parts types i h = go (reaches_itself types i) refl
  where
    cycle : (j : ℕ) → among (parts types i) j ≡ true → (j ≡ i) ⊎ ((m : ℕ) × (among (reached_to m types j) i ≡ true)) → ⊥
    cycle j p (inl e) =
        let own : among (parts types j) j ≡ true = subst (λ (z : ℕ). among (parts types z) j ≡ true) (sym e) p in
        absurd (cc (h j p, reach_bounded types 0 j j own))
    cycle j p (inr (m, r)) = absurd (cc (h j p, reach_bounded types (suc m) j j (reach_more types m j i j r p)))

    go : (b : Bool) → reaches_itself types i ≡ b → reaches_itself types i ≡ false
    go false e = e
    go true e = let s = first_step types (length types) i i e in absurd (cycle s.0 s.1.0 s.1.1)
