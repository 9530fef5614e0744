-- Numbers one apart.
use Rattle.std.proofs.Common.{◌≡◌, ℕ, suc, ◌+◌, ◌-◌, ◌<◌, ◌≤◌, ◌⊎◌, arith}

pub one_on : (n k : ℕ) → n + suc k ≡ n + 1 + k
one_on n k = omega arith

pub one_more : (n : ℕ) → 0 < n → n ≡ n - 1 + 1
one_more n positive = omega arith

pub le_cases : (m k : ℕ) → m ≤ suc k → (m ≤ k) ⊎ (m ≡ suc k)
le_cases m k h = grind arith
