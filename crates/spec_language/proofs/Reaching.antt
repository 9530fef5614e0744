-- Sets of structures as lists of numbers, and what a structure reaches.
use Rattle.std.specs.Prelude.{◌≡◌, ℕ, zero, suc, ◌+◌, ◌<◌, ◌≤◌, ◌≢◌, ◌⊎◌, Bool, true, false, cond, ◌||◌, ◌==◌, nat_lt, List, [], ◌∷◌, length, filter, position, Option, Some, None, option_map, ⊤, refl}
use Rattle.std.specs.Option.{option_or}
use Rattle.std.specs.List.{list_any, position_or_len, range_with_len}
use Rattle.std.proofs.Common.{sym, subst, arith, eqb-true, eq-eqb, ltb-true, inl, inr}
use Rattle.std.proofs.lemmas.Bool.{or_left}
pub use Rattle.std.proofs.lemmas.Bool.{or_right}
use Rattle.std.proofs.lemmas.Option.{cond_some}
use Rattle.lgx_num.specs.Name.{same}
use Rattle.spec_language.specs.declared.types.Base.{Base}
use Rattle.spec_language.specs.declared.types.Base.TheVariants.{User}
use Rattle.spec_language.specs.declared.types.TypeDecl.{TypeDecl}
use Rattle.spec_language.specs.Layout.{built_ins, looked_up, find, members_of}
use Rattle.spec_language.specs.TypeFaults.{user_number, parts, among, reached_to}
use Rattle.std.specs.List.{AllByRecursion as Each}
use Rattle.spec_base.proofs.Lists.{each_flat}
use Rattle.spec_language.specs.LayoutLaws.{OrderedHasNoRings}
use Rattle.spec_language.specs.TypeFaults.{reaches_itself}
use Rattle.spec_language.proofs.TypesFit.{looked_up_has}
use Rattle.spec_base.proofs.Numbers.{le_cases}

-- ---- sets

pub among_kept : (test : ℕ → Bool) (xs : List ℕ) (i : ℕ) → among xs i ≡ true → test i ≡ true → among (filter test xs) i ≡ true
among_kept test [] i p q = p
among_kept test (x ∷ xs) i p q = go (x == i) refl p (λ r. among_kept test xs i r q)
  where
    more : (b : Bool) → among (filter test xs) i ≡ true → among (cond b (x ∷ filter test xs) (filter test xs)) i ≡ true
    more true r = or_right (x == i) _ r
    more false r = r

    here : (b : Bool) → b ≡ true → (x == i) ≡ true → among (cond b (x ∷ filter test xs) (filter test xs)) i ≡ true
    here true r e = or_left (x == i) _ e
    here false r e = absurd (cc r)

    go : (b : Bool) → (x == i) ≡ b → (b || among xs i) ≡ true → (among xs i ≡ true → among (filter test xs) i ≡ true) → among (cond (test x) (x ∷ filter test xs) (filter test xs)) i ≡ true
    go true e r known = here (test x) (subst (λ (k : ℕ). test k ≡ true) (sym (eqb-true x i e)) q) e
    go false e r known = more (test x) (known r)

pub among_numbers : (from n i : ℕ) → from ≤ i → i < from + n → among (range_with_len from n) i ≡ true
among_numbers from zero i p q = absurd (omega arith)
among_numbers from (suc n) i p q = go (from == i) refl (λ r. among_numbers (from + 1) n i r (omega arith))
  where
    go : (b : Bool) → (from == i) ≡ b → (from + 1 ≤ i → among (range_with_len (from + 1) n) i ≡ true) → ((from == i) || among (range_with_len (from + 1) n) i) ≡ true
    go true e known = or_left (from == i) _ e
    go false e known = or_right (from == i) _ (known (omega (arith, apart from i e)))
      where
        apart : (a b : ℕ) → (a == b) ≡ false → a ≢ b
        apart a b f h = absurd (cc (f, eq-eqb a b h))

pub any_among : (test : ℕ → Bool) (set : List ℕ) (i : ℕ) → among set i ≡ true → test i ≡ true → list_any test set ≡ true
any_among test [] i p q = p
any_among test (x ∷ xs) i p q = go (x == i) refl p (λ r. any_among test xs i r q)
  where
    go : (b : Bool) → (x == i) ≡ b → (b || among xs i) ≡ true → (among xs i ≡ true → list_any test xs ≡ true) → (test x || list_any test xs) ≡ true
    go true e r known = or_left (test x) _ (subst (λ (k : ℕ). test k ≡ true) (sym (eqb-true x i e)) q)
    go false e r known = or_right (test x) _ (known r)

pub each_among : (P : ℕ → Type 0) (xs : List ℕ) (i : ℕ) → Each P xs → among xs i ≡ true → P i
each_among P [] i p q = absurd (cc q)
each_among P (x ∷ xs) i p q = go (x == i) refl q (λ r. each_among P xs i p.1 r)
  where
    go : (b : Bool) → (x == i) ≡ b → (b || among xs i) ≡ true → (among xs i ≡ true → P i) → P i
    go true e r known = subst P (eqb-true x i e) p.0
    go false e r known = known r

-- ---- names of structures

abbrev NotUser : Base → Type 0
NotUser (User i) = ⊥
NotUser _ = ⊤

pub position_below : {A : Type 0} (test : A → Bool) (xs : List A) (k : ℕ) → position test xs ≡ Some k → k < length xs
position_below test xs k p =
    let c = cond_some (nat_lt (position_or_len test xs) (length xs)) (position_or_len test xs) k p in
    subst (λ (n : ℕ). n < length xs) c.1 (ltb-true (position_or_len test xs) (length xs) c.0)

pub find_there : (types : List TypeDecl) (name : List ℕ) (j : ℕ) → find types name ≡ Some (User j) → j < length types
find_there types name j p = go (looked_up name built_ins) refl (position (λ d. same d.name name) types) refl p
  where
    go : (a : Option Base) → looked_up name built_ins ≡ a → (b : Option ℕ) → position (λ d. same d.name name) types ≡ b → option_or a (option_map User b) ≡ Some (User j) → j < length types
    go (Some x) e b f q = no_user x (looked_up_has NotUser name built_ins x (tt, (tt, (tt, (tt, (tt, (tt, tt)))))) e) (cc q)
      where
        no_user : (y : Base) → NotUser y → y ≡ User j → j < length types
        no_user y n r = absurd (subst NotUser r n)
    go None e None f q = absurd (cc q)
    go None e (Some k) f q = subst (λ (n : ℕ). n < length types) (cc q) (position_below (λ d. same d.name name) types k f)

pub users_there : (types : List TypeDecl) (o : Option Base) (name : List ℕ) → find types name ≡ o → Each (λ j. j < length types) (user_number o)
users_there types None name p = tt
users_there types (Some (User j)) name p = (find_there types name j p, tt)
users_there types (Some _) name p = tt

pub parts_there : (types : List TypeDecl) (i j : ℕ) → among (parts types i) j ≡ true → j < length types
parts_there types i j p = each_among (λ j. j < length types) (parts types i) j (each_flat (λ j. j < length types) (λ m. user_number (find types m.of)) (members_of types i) (λ m. users_there types (find types m.of) m.of refl)) p

-- ---- what a structure reaches

pub reach_more : (types : List TypeDecl) (m u i j : ℕ) → among (reached_to m types u) i ≡ true → among (parts types i) j ≡ true → among (reached_to (suc m) types u) j ≡ true
reach_more types m u i j p q = among_kept _ (range_with_len 0 (length types)) j (among_numbers 0 (length types) j (omega arith) (omega (arith, parts_there types i j q))) (or_right (among (reached_to m types u) j) _ (any_among (λ k. among (parts types k) j) (reached_to m types u) i p q))

pub reach_still : (types : List TypeDecl) (m u j : ℕ) → j < length types → among (reached_to m types u) j ≡ true → among (reached_to (suc m) types u) j ≡ true
reach_still types m u j h p = among_kept _ (range_with_len 0 (length types)) j (among_numbers 0 (length types) j (omega arith) (omega (arith, h))) (or_left (among (reached_to m types u) j) _ p)

pub reach_later : (types : List TypeDecl) (k m u j : ℕ) → m ≤ k → j < length types → among (reached_to m types u) j ≡ true → among (reached_to k types u) j ≡ true
reach_later types zero m u j h b p =
    let none : m ≡ zero = omega arith in
    subst (λ (n : ℕ). among (reached_to n types u) j ≡ true) none p
reach_later types (suc k) m u j h b p = go (le_cases m k h) (λ r. reach_later types k m u j r b p)
  where
    go : (m ≤ k) ⊎ (m ≡ suc k) → (m ≤ k → among (reached_to k types u) j ≡ true) → among (reached_to (suc k) types u) j ≡ true
    go (inl r) known = reach_still types k u j b (known r)
    go (inr r) known = subst (λ (n : ℕ). among (reached_to n types u) j ≡ true) r p

-- ---- structures in order

pub each_some : (P : ℕ → Type 0) (xs : List ℕ) → ((j : ℕ) → among xs j ≡ true → P j) → Each P xs
each_some P [] h = tt
each_some P (x ∷ xs) h = (h x (or_left (x == x) _ (eq-eqb x x refl)), each_some P xs (λ j q. h j (or_right (x == j) _ q)))

pub each_has : (test : ℕ → Bool) (P : ℕ → Type 0) (xs : List ℕ) → ((j : ℕ) → test j ≡ true → P j) → Each P (filter test xs)
each_has test P [] h = tt
each_has test P (x ∷ xs) h = go (test x) refl (each_has test P xs h)
  where
    go : (b : Bool) → test x ≡ b → Each P (filter test xs) → Each P (cond b (x ∷ filter test xs) (filter test xs))
    go true e rest = (h x e, rest)
    go false e rest = rest

pub any_has : (test : ℕ → Bool) (Q : Type 0) (P : ℕ → Type 0) (xs : List ℕ) → Each P xs → list_any test xs ≡ true → ((j : ℕ) → P j → test j ≡ true → Q) → Q
any_has test Q P [] p q f = absurd (cc q)
any_has test Q P (x ∷ xs) p q f = go (test x) refl q (λ r. any_has test Q P xs p.1 r f)
  where
    go : (b : Bool) → test x ≡ b → (b || list_any test xs) ≡ true → (list_any test xs ≡ true → Q) → Q
    go true e r known = f x p.0 e
    go false e r known = known r

pub all_lower : (types : List TypeDecl) (order : ℕ → ℕ) → ((i j : ℕ) → among (parts types i) j ≡ true → order j < order i) → (m i : ℕ) → Each (λ j. order j < order i) (reached_to m types i)
all_lower types order lower zero i = each_some (λ j. order j < order i) (parts types i) (lower i)
all_lower types order lower (suc m) i =
    let before : Each (λ j. order j < order i) (reached_to m types i) = all_lower types order lower m i in
    each_has _ (λ j. order j < order i) (range_with_len 0 (length types)) (λ j q. go before j (among (reached_to m types i) j) refl q)
  where
    go : Each (λ j. order j < order i) (reached_to m types i) → (j : ℕ) (b : Bool) → among (reached_to m types i) j ≡ b → (b || list_any (λ k. among (parts types k) j) (reached_to m types i)) ≡ true → order j < order i
    go before j true e q = each_among (λ j. order j < order i) (reached_to m types i) j before e
    go before j false e q = any_has (λ k. among (parts types k) j) (order j < order i) (λ k. order k < order i) (reached_to m types i) before q (λ k p r. omega (arith, p, lower k j r))

pub no_rings_in_order : OrderedHasNoRings
no_rings_in_order types order lower i = go (reaches_itself types i) refl
  where
    go : (b : Bool) → reaches_itself types i ≡ b → reaches_itself types i ≡ false
    go false e = e
    go true e = absurd (omega (arith, each_among (λ j. order j < order i) (reached_to (length types) types i) i (all_lower types order lower (length types) i) e))
