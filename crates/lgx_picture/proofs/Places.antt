-- Places in a drawing.
use Rattle.std.proofs.Common.{◌≡◌, ℕ, ◌+◌, ◌-◌, ◌*◌, ◌/◌, ◌^◌, ◌<◌, ◌≤◌, [], ◌∷◌, ◌++◌, min, max, refl, zero-add, arith}
use Rattle.std.proofs.Math.Nat.{div-le_of_le-mul, div-mul-le_self, mul-le-mul, mul-le-mul_left, mul-le-mul_right}
use Rattle.std.proofs.lemmas.List.FromFn.{map-range_with_len_more}
use Rattle.lgx_picture.specs.Svg.{multiples}

-- a part of the width
pub within : (time end from width : ℕ) → (min time end - from) * width / max (end - from) 1 ≤ width
within time end from width =
    let h : min time end - from ≤ max (end - from) 1 = omega arith in
    div-le_of_le-mul (max (end - from) 1) (mul-le-mul_right width h)

pub small_area : (a b : ℕ) → a < 2 ^ 32 → b < 2 ^ 16 → a * b < 2 ^ 64
small_area a b h k =
    let c : a ≤ 2 ^ 32 = omega arith in
    let d : b ≤ 2 ^ 16 = omega arith in
    omega (arith, mul-le-mul {n₁ = a} {m₁ = b} {n₂ = 2 ^ 32} {m₂ = 2 ^ 16} c d)

-- ---- the times of the lines down a drawing

pub small_product : (number spacing : ℕ) → number < 11 → spacing < 2 ^ 32 → number * spacing < 2 ^ 36
small_product number spacing h k =
    let a : number ≤ 10 = omega arith in
    let b : spacing ≤ 2 ^ 32 = omega arith in
    omega (arith, mul-le-mul {n₁ = number} {m₁ = spacing} {n₂ = 10} {m₂ = 2 ^ 32} a b)

pub small_multiple : (time reached : ℕ) → time < 2 ^ 32 → reached < 2 ^ 33 → reached / max time 1 * time < 2 ^ 33
small_multiple time reached h k =
    let a : time ≤ max time 1 = omega arith in
    let b : reached / max time 1 * time ≤ reached / max time 1 * max time 1 = mul-le-mul_left (reached / max time 1) a in
    let c : reached / max time 1 * max time 1 ≤ reached = div-mul-le_self reached (max time 1) in
    omega (arith, b, c)

pub no_multiple : (time : ℕ) → multiples time 0 ≡ []
unfolding multiples
no_multiple time = refl

pub multiples_more : (time count : ℕ) → multiples time (count + 1) ≡ multiples time count ++ (count * time) ∷ []
unfolding multiples
multiples_more time count = map-range_with_len_more (λ k. k * time) 0 count count (zero-add count)
