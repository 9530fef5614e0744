-- Sums and bounds of plain numbers, apart from what they count.
use Rattle.std.proofs.Common.{◌≡◌, ℕ, ◌+◌, ◌<◌, arith}

pub plus_none : (n : ℕ) → n + 0 ≡ n
plus_none n = omega arith

pub none_above : (n : ℕ) → n ≡ 0 → 0 < n → ⊥
none_above n a b = omega arith

pub none_below : (n : ℕ) → n < 0 → ⊥
none_below n a = omega arith

-- with one event there is nothing else
pub only_one : (len sum steps ticks : ℕ) → len ≡ 1 → len ≡ 1 + (sum + (steps + ticks)) → (sum ≡ 0) × (steps ≡ 0)
only_one len sum steps ticks a b = (omega arith, omega arith)

pub parts_at_first : (parts lanes count : ℕ) → parts ≡ lanes + 1 → count ≡ lanes → parts + 0 ≡ count + 1
parts_at_first parts lanes count a b = omega arith
