-- A search finds what the definition reaches.
use Rattle.std.specs.Prelude.{◌≡◌, ℕ, zero, suc, ◌+◌, ◌<◌, ◌≤◌, ◌⊎◌, Bool, true, false, cond, ◌||◌, nat_eq, List, [], ◌∷◌, ◌++◌, length, filter, refl}
use Rattle.std.specs.List.{list_any, range_with_len}
use Rattle.std.proofs.Common.{sym, ap, subst, ◌∙◌, arith, eqb-true, eq-eqb, inl, inr, get_or}
use Rattle.std.proofs.lemmas.Bool.{or_left, or_right, or_cases, eqb-false}
use Rattle.std.proofs.lemmas.List.Elements.{filter-append}
use Rattle.lgx_prog.specs.Search.{number_if}

-- ---- numbers in a list

abbrev pub Has : ℕ → List ℕ → Type 0
Has n xs = list_any (nat_eq n) xs ≡ true

pub any_at : (p : ℕ → Bool) (xs : List ℕ) (n : ℕ) → Has n xs → p n ≡ true → list_any p xs ≡ true
any_at p [] n h q = absurd (cc h)
any_at p (x ∷ xs) n h q = go (or_cases (nat_eq n x) (list_any (nat_eq n) xs) h) (λ r. any_at p xs n r q)
  where
    go : (nat_eq n x ≡ true) ⊎ Has n xs → (Has n xs → list_any p xs ≡ true) → (p x || list_any p xs) ≡ true
    go (inl e) more = or_left (p x) _ (subst (λ (k : ℕ). p k ≡ true) (eqb-true n x e) q)
    go (inr r) more = or_right (p x) _ (more r)

pub any_from : (p : ℕ → Bool) (xs : List ℕ) → list_any p xs ≡ true → (n : ℕ) × Has n xs × (p n ≡ true)
any_from p [] h = absurd (cc h)
any_from p (x ∷ xs) h = go (or_cases (p x) (list_any p xs) h) (λ r. any_from p xs r)
  where
    go : (p x ≡ true) ⊎ (list_any p xs ≡ true) → (list_any p xs ≡ true → (n : ℕ) × Has n xs × (p n ≡ true)) → (n : ℕ) × Has n (x ∷ xs) × (p n ≡ true)
    go (inl e) more = (x, or_left (nat_eq x x) _ (eq-eqb x x refl), e)
    go (inr r) more = let m = more r in (m.0, or_right (nat_eq m.0 x) _ m.1, m.2)

pub into_filter : (p : ℕ → Bool) (xs : List ℕ) (n : ℕ) → Has n xs → p n ≡ true → Has n (filter p xs)
into_filter p [] n h q = h
into_filter p (x ∷ xs) n h q = go (p x) refl (or_cases (nat_eq n x) (list_any (nat_eq n) xs) h) (λ r. into_filter p xs n r q)
  where
    go : (b : Bool) → p x ≡ b → (nat_eq n x ≡ true) ⊎ Has n xs → (Has n xs → Has n (filter p xs)) → Has n (cond b (x ∷ filter p xs) (filter p xs))
    go true e (inl f) more = or_left (nat_eq n x) _ f
    go true e (inr r) more = or_right (nat_eq n x) _ (more r)
    go false e (inl f) more = absurd (cc (e, subst (λ (k : ℕ). p k ≡ true) (eqb-true n x f) q))
    go false e (inr r) more = more r

pub from_filter : (p : ℕ → Bool) (xs : List ℕ) (n : ℕ) → Has n (filter p xs) → Has n xs × (p n ≡ true)
from_filter p [] n h = absurd (cc h)
from_filter p (x ∷ xs) n h = go (p x) refl h (λ r. from_filter p xs n r)
  where
    go : (b : Bool) → p x ≡ b → Has n (cond b (x ∷ filter p xs) (filter p xs)) → (Has n (filter p xs) → Has n xs × (p n ≡ true)) → Has n (x ∷ xs) × (p n ≡ true)
    go true e r more = here (or_cases (nat_eq n x) (list_any (nat_eq n) (filter p xs)) r)
      where
        here : (nat_eq n x ≡ true) ⊎ Has n (filter p xs) → Has n (x ∷ xs) × (p n ≡ true)
        here (inl f) = (or_left (nat_eq n x) _ f, subst (λ (k : ℕ). p k ≡ true) (sym (eqb-true n x f)) e)
        here (inr q) = let m = more q in (or_right (nat_eq n x) _ m.0, m.1)
    go false e r more = let m = more r in (or_right (nat_eq n x) _ m.0, m.1)

pub into_range : (from k n : ℕ) → from ≤ n → n < from + k → Has n (range_with_len from k)
into_range from zero n a b = absurd (omega arith)
into_range from (suc k) n a b = go (nat_eq n from) refl (λ more. into_range (from + 1) k n more (omega arith))
  where
    go : (t : Bool) → nat_eq n from ≡ t → (from + 1 ≤ n → Has n (range_with_len (from + 1) k)) → (nat_eq n from || list_any (nat_eq n) (range_with_len (from + 1) k)) ≡ true
    go true e more = or_left (nat_eq n from) _ e
    go false e more = or_right (nat_eq n from) _ (more (omega (arith, eqb-false n from e)))

pub from_range : (from k n : ℕ) → Has n (range_with_len from k) → n < from + k
from_range from zero n h = absurd (cc h)
from_range from (suc k) n h = go (or_cases (nat_eq n from) _ h) (λ r. from_range (from + 1) k n r)
  where
    go : (nat_eq n from ≡ true) ⊎ Has n (range_with_len (from + 1) k) → (Has n (range_with_len (from + 1) k) → n < from + 1 + k) → n < from + suc k
    go (inl e) more = omega (arith, eqb-true n from e)
    go (inr r) more = omega (arith, more r)

pub filter_same : (p q : ℕ → Bool) (xs : List ℕ) → ((n : ℕ) → Has n xs → p n ≡ q n) → filter p xs ≡ filter q xs
filter_same p q [] h = refl
filter_same p q (x ∷ xs) h =
    ap (λ b. cond b (x ∷ filter p xs) (filter p xs)) (h x (or_left (nat_eq x x) _ (eq-eqb x x refl)))
    ∙ ap (λ ys. cond (q x) (x ∷ ys) ys) (filter_same p q xs (λ n r. h n (or_right (nat_eq n x) _ r)))

pub has_end : (xs : List ℕ) (n : ℕ) → Has n (xs ++ n ∷ [])
has_end [] n = or_left (nat_eq n n) _ (eq-eqb n n refl)
has_end (x ∷ xs) n = or_right (nat_eq n x) _ (has_end xs n)

pub has_before : (xs : List ℕ) (n k : ℕ) → Has n xs → Has n (xs ++ k ∷ [])
has_before [] n k h = absurd (cc h)
has_before (x ∷ xs) n k h = go (or_cases (nat_eq n x) _ h) (λ r. has_before xs n k r)
  where
    go : (nat_eq n x ≡ true) ⊎ Has n xs → (Has n xs → Has n (xs ++ k ∷ [])) → Has n (x ∷ (xs ++ k ∷ []))
    go (inl e) more = or_left (nat_eq n x) _ e
    go (inr r) more = or_right (nat_eq n x) _ (more r)

pub place_of : (xs : List ℕ) (n : ℕ) → Has n xs → (j : ℕ) × (j < length xs) × (get_or xs j 0 ≡ n)
place_of [] n h = absurd (cc h)
place_of (x ∷ xs) n h = go (or_cases (nat_eq n x) _ h) (λ r. place_of xs n r)
  where
    go : (nat_eq n x ≡ true) ⊎ Has n xs → (Has n xs → (j : ℕ) × (j < length xs) × (get_or xs j 0 ≡ n)) → (j : ℕ) × (j < length (x ∷ xs)) × (get_or (x ∷ xs) j 0 ≡ n)
    go (inl e) more = (zero, omega arith, sym (eqb-true n x e))
    go (inr r) more = let m = more r in (suc m.0, omega (arith, m.1), m.2)

range_next : (a k : ℕ) → range_with_len a (suc k) ≡ range_with_len a k ++ (a + k) ∷ []
range_next a zero = ap (λ (m : ℕ). m ∷ []) (omega arith)
range_next a (suc k) =
    let next : (a + 1) + k ≡ a + suc k = omega arith in
    ap (λ xs. a ∷ xs) (range_next (a + 1) k ∙ ap (λ (m : ℕ). range_with_len (a + 1) k ++ m ∷ []) next)

one_kept : (b : Bool) (n : ℕ) → cond b (n ∷ []) [] ≡ number_if b n
one_kept true n = refl
one_kept false n = refl

-- one number more
pub filter_next : (p : ℕ → Bool) (n : ℕ) → filter p (range_with_len 0 (n + 1)) ≡ filter p (range_with_len 0 n) ++ number_if (p n) n
filter_next p n =
    let next : n + 1 ≡ suc n = omega arith in
    let here : 0 + n ≡ n = omega arith in
    ap (λ m. filter p (range_with_len 0 m)) next ∙ ap (filter p) (range_next 0 n ∙ ap (λ (m : ℕ). range_with_len 0 n ++ m ∷ []) here) ∙ filter-append p (range_with_len 0 n) (n ∷ []) ∙ ap (λ xs. filter p (range_with_len 0 n) ++ xs) (one_kept (p n) n)
