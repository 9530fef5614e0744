-- A sum, a difference or a product of DINTs is exact.
use Rattle.std.proofs.Common.{◌≡◌, ◌^◌, refl, arith}
use Rattle.std.proofs.lemmas.Int.{ints, to_z-of_z, fits_signed_mul}
use Rattle.std.specs.Prelude.{ℤ, ◌*ℤ◌}
use Rattle.std.specs.Int.{w32, w64}
use mir.Val.{SFits, to_z, of_z}
use Rattle.lgx_math.proofs.results.result_of.Goals as goal

same_number : (x a : ℤ) → SFits w32 a → x ≡ to_z w32 (of_z w32 a) → to_z w64 (of_z w64 x) ≡ a
same_number x a fits is = omega (arith, ints)

product_fits : (a b x y : ℤ) → SFits w32 a → SFits w32 b → x ≡ a → y ≡ b → SFits w64 (x *ℤ y)
product_fits a b x y p q e f = fits_signed_mul w64 x y (2 ^ 31) (2 ^ 31) (omega (arith, ints)) (omega (arith, ints)) (omega arith)

exact_product : (a b x y : ℤ) → SFits w32 a → SFits w32 b → x ≡ a → y ≡ b → to_z w64 (of_z w64 (x *ℤ y)) ≡ a *ℤ b
exact_product a b x y p q e f = rw (to_z-of_z w64 (x *ℤ y) (product_fits a b x y p q e f)) (rw (e, f) refl)

pub returns-in-Add : goal.returns-in-Add
returns-in-Add c = rw c.in-Add.is (omega (arith, ints))

pub returns-in-Sub : goal.returns-in-Sub
returns-in-Sub c = rw c.in-Sub.is (omega (arith, ints))

pub returns-in-Neg : goal.returns-in-Neg
returns-in-Neg c = rw c.in-Neg.is (omega (arith, ints))

pub returns-in-Abs : goal.returns-in-Abs
returns-in-Abs c = rw c.in-Abs.is (omega (arith, ints))

pub overflow_mul-result : goal.overflow_mul-result
overflow_mul-result c =
    product_fits _ _ _ _ c.ranges.a c.ranges.b (same_number _ _ c.ranges.a c.from-in-Mul.ensures) (same_number _ _ c.ranges.b c.from-in-Mul-2.ensures)

pub returns-in-Mul : goal.returns-in-Mul
returns-in-Mul c =
    rw c.in-Mul.is
    (exact_product _ _ _ _ c.ranges.a c.ranges.b (same_number _ _ c.ranges.a c.from-in-Mul.ensures) (same_number _ _ c.ranges.b c.from-in-Mul-2.ensures))
