-- Lists each of whose elements has a property: an element changed, and one read.
use Rattle.std.proofs.Common.{◌≡◌, ℕ, ◌+◌, zero, suc, List, [], ◌∷◌, get_or, set, subst, arith}
use Rattle.std.specs.List.{AllByRecursion as Each, enumerate_from}

module _ {A : Type 0} (P : A → Type 0) where
  pub each-set : (xs : List A) (i : ℕ) (x : A) → Each P xs → P x → Each P (set xs i x)
  each-set [] i x h p = h
  each-set (y ∷ ys) zero x h p = (p, h.1)
  each-set (y ∷ ys) (suc i) x h p = (h.0, each-set ys i x h.1 p)

  -- also past the end, if the default has it
  pub each-get_or : (xs : List A) (i : ℕ) (d : A) → Each P xs → P d → P (get_or xs i d)
  each-get_or [] i d h p = p
  each-get_or (x ∷ xs) zero d h p = h.0
  each-get_or (x ∷ xs) (suc i) d h p = each-get_or xs i d h.1 p

-- the same of a property of an element with its number, where the first is number k
module _ {A : Type 0} (P : ℕ → A → Type 0) where
  pub numbered-set : (k : ℕ) (xs : List A) (i n : ℕ) (x : A) → n ≡ k + i → Each (λ e. P e.0 e.1) (enumerate_from k xs) → P n x → Each (λ e. P e.0 e.1) (enumerate_from k (set xs i x))
  numbered-set k [] i n x is h p = h
  numbered-set k (y ∷ ys) zero n x is h p = let here : n ≡ k = omega arith in (subst (λ m. P m x) here p, h.1)
  numbered-set k (y ∷ ys) (suc i) n x is h p = (h.0, numbered-set (k + 1) ys i n x (omega arith) h.1 p)

  pub numbered-at : (k : ℕ) (xs : List A) (i n : ℕ) (d : A) → n ≡ k + i → Each (λ e. P e.0 e.1) (enumerate_from k xs) → ((m : ℕ) → P m d) → P n (get_or xs i d)
  numbered-at k [] i n d is h p = p n
  numbered-at k (x ∷ xs) zero n d is h p = let here : k ≡ n = omega arith in subst (λ m. P m x) here h.0
  numbered-at k (x ∷ xs) (suc i) n d is h p = numbered-at (k + 1) xs i n d (omega arith) h.1 p
