-- Masks, searches and counts by tests.
use Rattle.std.proofs.Common.{◌≡◌, ℕ, zero, suc, ◌+◌, ◌^◌, ◌<◌, ◌≤◌, inl, inr, Bool, true, false, cond, List, ◌∷◌, Some, None, refl, sym, ◌∙◌, ap, arith}
use Rattle.std.specs.Prelude.{find}
use Rattle.std.specs.List.{count_by, range_with_len}
use Rattle.std.proofs.lemmas.Bool.{cases_eq, cases_lt}
use Rattle.std.proofs.lemmas.List.Sums.{sum_by-cons}
use Rattle.spec_laws.specs.TickReleases.{mask_below}

pub mask_same : (f g : ℕ → Bool) (n : ℕ) → ((k : ℕ) → k < n → f k ≡ g k) → mask_below f n ≡ mask_below g n
mask_same f g zero h = refl
mask_same f g (suc n) h =
    ap (λ m. m + cond (f n) (2 ^ n) 0) (mask_same f g n (λ k l. h k (omega arith))) ∙ ap (λ b. mask_below g n + cond b (2 ^ n) 0) (h n (omega arith))

pub mask_none : (f : ℕ → Bool) (n : ℕ) → ((k : ℕ) → f k ≡ false) → mask_below f n ≡ 0
mask_none f zero h = refl
mask_none f (suc n) h = ap (λ m. m + cond (f n) (2 ^ n) 0) (mask_none f n h) ∙ (ap (λ b. 0 + cond b (2 ^ n) 0) (h n) ∙ refl)

pub find_none : (f : ℕ → Bool) (i n : ℕ) → ((k : ℕ) → f k ≡ false) → find f (range_with_len i n) ≡ None
find_none f i zero h = refl
find_none f i (suc n) h = ap (λ b. cond b (Some i) (find f (range_with_len (i + 1) n))) (h i) ∙ find_none f (i + 1) n h

-- one element more is counted
pub count-cons : {A : Type 0} (p : A → Bool) (x : A) (xs : List A) → count_by p (x ∷ xs) ≡ cond (p x) 1 0 + count_by p xs
count-cons p x xs = sum_by-cons (λ y. cond (p y) 1 0) x xs

-- ---- a test that one number alone may pass

abbrev pub IsOnly : (ℕ → Bool) → ℕ → Type 0
IsOnly f t = (u : ℕ) → (u ≡ t → ⊥) → f u ≡ false

module _ (f : ℕ → Bool) (t : ℕ) (only : IsOnly f t) where
  mask_before : (n : ℕ) → n ≤ t → mask_below f n ≡ 0
  mask_before zero l = refl
  mask_before (suc n) l = ap (λ m. m + cond (f n) (2 ^ n) 0) (mask_before n (omega arith)) ∙ (ap (λ b. 0 + cond b (2 ^ n) 0) (only n (λ e. absurd (omega arith))) ∙ refl)

  pub mask_one : (n : ℕ) → t < n → mask_below f n ≡ cond (f t) (2 ^ t) 0
  mask_one zero l = absurd (omega arith)
  mask_one (suc n) l =
      elim (cases_eq t n) [
        | inl e ↦ (let z = mask_before n (omega arith) in let w : mask_below f n + cond (f n) (2 ^ n) 0 ≡ cond (f n) (2 ^ n) 0 = omega arith in w ∙ ap (λ k. cond (f k) (2 ^ k) 0) (sym e))
        | inr ne ↦ (let z = mask_one n (omega arith) in
            let w = ap (λ b. cond b (2 ^ n) 0) (only n (λ e. ne (sym e))) in
            let x : mask_below f n + cond (f n) (2 ^ n) 0 ≡ cond (f t) (2 ^ t) 0 = omega arith in
            x)
      ]

  pub all_false : f t ≡ false → (u : ℕ) → f u ≡ false
  all_false h u = elim (cases_eq u t) [ inl e ↦ ap f e ∙ h | inr ne ↦ only u ne ]

  pub find_one : (i n : ℕ) → i ≤ t → t < i + n → find f (range_with_len i n) ≡ cond (f t) (Some t) None
  find_one i zero a b = absurd (omega arith)
  find_one i (suc n) a b =
      elim (cases_lt i t) [
        | inl l ↦ ap (λ x. cond x (Some i) (find f (range_with_len (i + 1) n))) (only i (λ e. absurd (omega arith))) ∙ find_one (i + 1) n (omega arith) (omega arith)
        | inr g ↦ here (let e : i ≡ t = omega arith in e) (f t) refl
      ]
    where
      here : i ≡ t → (x : Bool) → f t ≡ x → find f (range_with_len i (suc n)) ≡ cond (f t) (Some t) None
      here e true q =
          ap (λ x. cond x (Some i) (find f (range_with_len (i + 1) n))) (ap f e ∙ q) ∙ (ap (λ (k : ℕ). Some k) e ∙ sym (ap (λ x. cond x (Some t) None) q))
      here e false q = find_none f i (suc n) (all_false q) ∙ sym (ap (λ x. cond x (Some t) None) q)
