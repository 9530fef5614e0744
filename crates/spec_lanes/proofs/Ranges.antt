-- Tests of numbers in a range, and division by a pace.
use Rattle.std.proofs.Common.{◌≡◌, ℕ, zero, suc, ◌+◌, ◌*◌, ◌/◌, ◌%◌, ◌<◌, ◌≤◌, inl, inr, Bool, true, refl, sym, ◌∙◌, ap, arith}
use Rattle.std.specs.List.{list_all, range_with_len}
use Rattle.std.proofs.lemmas.Bool.{and_from, and_parts, cases_lt}
use Rattle.std.proofs.lemmas.Nat.{div-mul-add, mod-mul-add, div-add-mod'}
use Rattle.std.proofs.Math.Nat.{mod-lt, suc-mul}

-- ---- ranges

pub each_in : (test : ℕ → Bool) (a n : ℕ) → list_all test (range_with_len a n) ≡ true → (k : ℕ) → a ≤ k → k < a + n → test k ≡ true
each_in test a zero h k ge lt = absurd (omega arith)
each_in test a (suc n) h k ge lt =
    let parts = and_parts (test a) (list_all test (range_with_len (a + 1) n)) h in
    elim (cases_lt a k) [
      | inl later ↦ each_in test (a + 1) n parts.1 k (omega arith) (omega arith)
      | inr here ↦ (let same : a ≡ k = omega arith in sym (ap test same) ∙ parts.0)
    ]

pub all_in : (test : ℕ → Bool) (a n : ℕ) → ((k : ℕ) → a ≤ k → k < a + n → test k ≡ true) → list_all test (range_with_len a n) ≡ true
all_in test a zero each = refl
all_in test a (suc n) each =
    and_from (test a) (list_all test (range_with_len (a + 1) n)) (each a (omega arith) (omega arith))
    (all_in test (a + 1) n (λ k ge lt. each k (omega arith) (omega arith)))

-- ---- the pace

-- one more, as a quotient and a remainder
pub record IsNext (n pace : ℕ) : Type 0 where
  pub on : (n + 1) % pace ≡ 0 → (n + 1) / pace ≡ n / pace + 1
  pub within : ((n + 1) % pace ≡ 0 → ⊥) → (n + 1) / pace ≡ n / pace

pub next_of_pace : (n pace : ℕ) → 0 < pace → IsNext n pace
next_of_pace n pace some =
    let q = n / pace in
    let r = n % pace in
    let whole : q * pace + r ≡ n = div-add-mod' n pace in
    let small : r < pace = mod-lt n some in
    elim (cases_lt (r + 1) pace) [
      | inl lt ↦
          let sum : n + 1 ≡ q * pace + (r + 1) = omega arith in
          let quotient : (n + 1) / pace ≡ q = ap (λ m. m / pace) sum ∙ div-mul-add q pace (r + 1) lt in
          let rest : (n + 1) % pace ≡ r + 1 = ap (λ m. m % pace) sum ∙ mod-mul-add q pace (r + 1) lt in
          record {
            on = λ e. absurd (let f : r + 1 ≡ 0 = sym rest ∙ e in omega arith);
            within = λ ne. quotient;
          }
      | inr ge ↦
          let full : r + 1 ≡ pace = omega arith in
          let more : (q + 1) * pace ≡ q * pace + pace = ap (λ m. m * pace) (let e : q + 1 ≡ suc q = omega arith in e) ∙ suc-mul q pace in
          let sum : n + 1 ≡ (q + 1) * pace + 0 = omega arith in
          let quotient : (n + 1) / pace ≡ q + 1 = ap (λ m. m / pace) sum ∙ div-mul-add (q + 1) pace 0 some in
          let rest : (n + 1) % pace ≡ 0 = ap (λ m. m % pace) sum ∙ mod-mul-add (q + 1) pace 0 some in
          record {
            on = λ e. quotient;
            within = λ ne. absurd (ne rest);
          }
    ]
