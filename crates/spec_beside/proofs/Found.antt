-- Elements of a list that are told by their places.
use Rattle.std.proofs.Common.{◌≡◌, ℕ, zero, suc, ◌+◌, ◌<◌, Bool, true, false, cond, List, [], ◌∷◌, ◌++◌, length, map, Some, refl, ap, subst, arith}
use Rattle.std.specs.Prelude.{slice_get, filter, flat_map}
use Rattle.std.specs.List.{AllByRecursion as Each, enumerate_from}

-- it stands somewhere in the list
abbrev pub Found : {A : Type 0} → A → List A → Type 0
Found x xs = (i : ℕ) × (slice_get xs i ≡ Some x)

pub found_behind : {A : Type 0} (x y : A) (xs : List A) → Found x xs → Found x (y ∷ xs)
found_behind x y xs h = (suc h.0, h.1)

found_at : {A : Type 0} (x : A) (xs ys : List A) (i : ℕ) → slice_get xs i ≡ Some x → slice_get (xs ++ ys) i ≡ Some x
found_at x [] ys i e = absurd (cc e)
found_at x (y ∷ xs) ys zero e = e
found_at x (y ∷ xs) ys (suc i) e = found_at x xs ys i e

found_left : {A : Type 0} (x : A) (xs ys : List A) → Found x xs → Found x (xs ++ ys)
found_left x xs ys h = (h.0, found_at x xs ys h.0 h.1)

found_right : {A : Type 0} (x : A) (xs ys : List A) → Found x ys → Found x (xs ++ ys)
found_right x [] ys h = h
found_right x (y ∷ xs) ys h = found_behind x y (xs ++ ys) (found_right x xs ys h)

-- among those that pass a test
pub found_passing : {A : Type 0} (test : A → Bool) (x : A) (xs : List A) (i : ℕ) → slice_get xs i ≡ Some x → test x ≡ true → Found x (filter test xs)
found_passing test x [] i e t = absurd (cc e)
found_passing test x (y ∷ ys) zero e t =
    let same : y ≡ x = cc e in
    subst (λ (b : Bool). Found x (cond b (y ∷ filter test ys) (filter test ys))) (let h : true ≡ test y = cc (same, t) in h) (zero, e)
found_passing test x (y ∷ ys) (suc i) e t = go (test y) (found_passing test x ys i e t)
  where
    go : (b : Bool) → Found x (filter test ys) → Found x (cond b (y ∷ filter test ys) (filter test ys))
    go true h = found_behind x y (filter test ys) h
    go false h = h

-- among those of all lists
pub found_flat : {A B : Type 0} (f : A → List B) (xs : List A) (i : ℕ) (a : A) (x : B) → slice_get xs i ≡ Some a → Found x (f a) → Found x (flat_map f xs)
found_flat f [] i a x e h = absurd (cc e)
found_flat f (y ∷ ys) zero a x e h = found_left x (f y) (flat_map f ys) (subst (λ z. Found x (f z)) (let s : a ≡ y = cc e in s) h)
found_flat f (y ∷ ys) (suc i) a x e h = found_right x (f y) (flat_map f ys) (found_flat f ys i a x e h)

-- with its number
pub numbered : {A : Type 0} (j m : ℕ) (xs : List A) (i : ℕ) (x : A) → m ≡ j + i → slice_get xs i ≡ Some x → slice_get (enumerate_from j xs) i ≡ Some (m, x)
numbered j m [] i x n e = absurd (cc e)
numbered j m (y ∷ ys) zero x n e = let z : j ≡ m = omega arith in cc (z, e)
numbered j m (y ∷ ys) (suc i) x n e = numbered (j + 1) m ys i x (omega arith) e

-- an element below the length is there
pub found_below : {A : Type 0} (xs : List A) (i : ℕ) → i < length xs → (x : A) × (slice_get xs i ≡ Some x)
found_below [] i l = absurd (omega arith)
found_below (x ∷ xs) zero l = (x, refl)
found_below (x ∷ xs) (suc i) l = found_below xs i (omega arith)

pub each_mapped : {A B : Type 0} (P : B → Type 0) (f : A → B) (xs : List A) → ((x : A) → P (f x)) → Each P (map f xs)
each_mapped P f [] h = tt
each_mapped P f (x ∷ xs) h = (h x, each_mapped P f xs h)

pub found_mapped : {A B : Type 0} (f : A → B) (x : A) (xs : List A) → Found x xs → Found (f x) (map f xs)
found_mapped {A} {B} f x xs h = (h.0, at xs h.0 h.1)
  where
    at : (ys : List A) (i : ℕ) → slice_get ys i ≡ Some x → slice_get (map f ys) i ≡ Some (f x)
    at [] i e = absurd (cc e)
    at (y ∷ ys) zero e = let same : y ≡ x = cc e in ap (λ z. Some (f z)) same
    at (y ∷ ys) (suc i) e = at ys i e
