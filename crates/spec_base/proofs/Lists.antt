-- Lists each of whose elements has a property, and what is found in a list.
use Rattle.std.specs.Prelude.{refl, ◌≡◌, ℕ, zero, suc, ◌+◌, ◌<◌, Bool, true, false, cond, ◌||◌, List, [], ◌∷◌, ◌++◌, map, filter, flat_map, find, slice_get, slice_index, nat_eq, Option, Some, None, is_some, IsTrue}
use Rattle.std.specs.Bool.{one_answer}
use Rattle.std.specs.Cmp.Lexicographic.{pointwise}
use Rattle.std.specs.List.{AllByRecursion as Each, list_any, position_from}
use Rattle.std.proofs.Common.{ap, sym, subst}
use Rattle.std.proofs.lemmas.Slice.Eq.{bytes_eq-Decides}

-- ---- each element

pub each_map : {A : Type 0} (P Q : A → Type 0) (xs : List A) → ((x : A) → P x → Q x) → Each P xs → Each Q xs
each_map P Q [] f p = tt
each_map P Q (x ∷ xs) f p = (f x p.0, each_map P Q xs f p.1)

pub each_append : {A : Type 0} (P : A → Type 0) (xs ys : List A) → Each P xs → Each P ys → Each P (xs ++ ys)
each_append P [] ys p q = q
each_append P (x ∷ xs) ys p q = (p.0, each_append P xs ys p.1 q)

pub each_parts : {A : Type 0} (P : A → Type 0) (xs ys : List A) → Each P (xs ++ ys) → Each P xs × Each P ys
each_parts P [] ys p = (tt, p)
each_parts P (x ∷ xs) ys p = let r = each_parts P xs ys p.1 in ((p.0, r.0), r.1)

pub each_filter : {A : Type 0} (P : A → Type 0) (test : A → Bool) (xs : List A) → Each P xs → Each P (filter test xs)
each_filter P test [] p = p
each_filter P test (x ∷ xs) p = go (test x) (each_filter P test xs p.1)
  where
    go : (b : Bool) → Each P (filter test xs) → Each P (cond b (x ∷ filter test xs) (filter test xs))
    go true q = (p.0, q)
    go false q = q

pub each_flat : {A B : Type 0} (P : B → Type 0) (f : A → List B) (xs : List A) → ((x : A) → Each P (f x)) → Each P (flat_map f xs)
each_flat P f [] p = tt
each_flat P f (x ∷ xs) p = each_append P (f x) (flat_map f xs) (p x) (each_flat P f xs p)

pub each_find : {A : Type 0} (P : A → Type 0) (test : A → Bool) (xs : List A) (y : A) → Each P xs → find test xs ≡ Some y → P y
each_find P test [] y p q = absurd (cc q)
each_find P test (x ∷ xs) y p q = go (test x) (each_find P test xs y p.1) q
  where
    go : (b : Bool) → (find test xs ≡ Some y → P y) → cond b (Some x) (find test xs) ≡ Some y → P y
    go true known r = subst P (cc r) p.0
    go false known r = known r

pub each_get : {A : Type 0} (P : A → Type 0) (xs : List A) (i : ℕ) (y : A) → Each P xs → slice_get xs i ≡ Some y → P y
each_get P [] i y p q = absurd (cc q)
each_get P (x ∷ xs) zero y p q = subst P (cc q) p.0
each_get P (x ∷ xs) (suc i) y p q = each_get P xs i y p.1 q

-- what a mapped list has where the list has an element
pub get_mapped : {A : Type 0} (f : A → ℕ) (xs : List A) (i : ℕ) (y : A) → slice_get xs i ≡ Some y → slice_index (map f xs) i ≡ f y
get_mapped f [] i y q = absurd (cc q)
get_mapped f (x ∷ xs) zero y q = ap f (cc q)
get_mapped f (x ∷ xs) (suc i) y q = get_mapped f xs i y q

-- ---- what is found

-- an element passes the test exactly where a first one does, from whatever number on the elements are counted
pub any_some : {A : Type 0} (test : A → Bool) (xs : List A) (i : ℕ) → list_any test xs ≡ is_some (position_from test i xs)
any_some test [] i = refl
any_some test (x ∷ xs) i = by_test (test x) (any_some test xs (i + 1))
  where
    by_test : (b : Bool) → list_any test xs ≡ is_some (position_from test (i + 1) xs) → (b || list_any test xs) ≡ is_some (cond b (Some i) (position_from test (i + 1) xs))
    by_test true e = refl
    by_test false e = e

-- what is there is a value
pub value_of_some : {A : Type 0} (o : Option A) → IsTrue (is_some o) → (x : A) × (o ≡ Some x)
value_of_some None h = absurd (let f : false ≡ true → ⊥ = λ p. cc in f h)
value_of_some (Some x) h = (x, refl)

-- ---- truths

pub same_truth : (a b : Bool) → (a ≡ true → b ≡ true) → (b ≡ true → a ≡ true) → a ≡ b
same_truth true true f g = refl
same_truth true false f g = sym (f refl)
same_truth false true f g = g refl
same_truth false false f g = refl

pub pointwise_sym : (a b : List ℕ) → pointwise nat_eq a b ≡ pointwise nat_eq b a
pointwise_sym a b =
    let h = bytes_eq-Decides a b in
    let k = bytes_eq-Decides b a in
    one_answer (pointwise nat_eq a b) (pointwise nat_eq b a) h ((λ e. sym (k.0 e)), (λ e. k.1 (sym e)))
