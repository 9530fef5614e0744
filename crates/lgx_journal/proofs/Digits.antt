-- Powers of ten.
use Rattle.std.proofs.Common.{◌≡◌, ℕ, ◌+◌, ◌*◌, ◌<◌, ◌≤◌, ◌^◌, pow-add, arith}
use Rattle.std.proofs.Math.Nat.{pow-le-pow_right}

pub pow_small : (i : ℕ) → i < 10 → 10 ^ i ≤ 1000000000
pow_small i h = pow-le-pow_right {n = 10} (omega arith) {i = i} {j = 9} (omega arith)

pub pow_short : (i : ℕ) → i < 9 → 10 ^ i ≤ 100000000
pow_short i h = pow-le-pow_right {n = 10} (omega arith) {i = i} {j = 8} (omega arith)

pub pow_more : (i n d : ℕ) → n < 10 ^ i → d < 10 → n * 10 + d < 10 ^ (i + 1)
pow_more i n d h k = let e : 10 ^ (i + 1) ≡ 10 ^ i * 10 ^ 1 = pow-add 10 i 1 in omega (arith, h, k, e)
