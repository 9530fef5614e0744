-- Quotients and remainders, and results that fit.
use Rattle.std.proofs.Common.{◌≡◌, ◌≢◌, ℕ, zero, suc, ◌%◌, ◌<◌, Bool, true, false, not, ◌&&◌, ◌||◌, cond, ℤ, pos, negsuc, neg_ℤ, ◌+ℤ◌, ◌*ℤ◌, ◌≤ℤ◌, refl, ap, ◌∙◌, arith}
use Rattle.std.specs.Prelude.{unsigned_abs, int_div, int_rem}
use Rattle.std.proofs.lemmas.Int.{quot-rem, rem_below, ints}
use Rattle.std.proofs.lemmas.Bool.{false_from_ne_true}
use Rattle.std.proofs.lemmas.Bool.Decides.{Decides-int_eq}
use Rattle.lgx_num.specs.Number.{fits}
use Rattle.lgx_num.proofs.Numbers.{value_in_range_is_kept}
use Rattle.spec_scan.specs.Arithmetic.{quotient, remainder, is_exact, divides, is_zero}
use Rattle.lgx_math.specs.Laws.{RemainderIsLeft, RemainderIsLess, RemainderHasTheSign, StoredIsExact}

-- ---- another divisor than 0

not_zero : (b : ℤ) → b ≢ pos 0 → is_zero b ≡ false
not_zero b other = false_from_ne_true (is_zero b) (λ is. other ((Decides-int_eq b (pos 0)).0 is))

quotient-is : (a b : ℤ) → b ≢ pos 0 → quotient a b ≡ int_div a b
quotient-is a b other = ap (λ (t : Bool). cond t a (int_div a b)) (not_zero b other)

remainder-is : (a b : ℤ) → b ≢ pos 0 → remainder a b ≡ int_rem a b
remainder-is a b other = ap (λ (t : Bool). cond t (pos 0) (int_rem a b)) (not_zero b other)

pub remainder_is_left : RemainderIsLeft
remainder_is_left a b other =
    ap (λ (q : ℤ). q *ℤ b +ℤ remainder a b) (quotient-is a b other)
    ∙ ap (λ (r : ℤ). int_div a b *ℤ b +ℤ r) (remainder-is a b other)
    ∙ quot-rem a b

above_zero : (b : ℤ) → b ≢ pos 0 → 0 < unsigned_abs b
above_zero (pos zero) other = absurd (other refl)
above_zero (pos (suc n)) other = omega arith
above_zero (negsuc n) other = omega arith

pub remainder_is_less : RemainderIsLess
remainder_is_less a b other = rw (remainder-is a b other) (rem_below a b (above_zero b other))

-- ---- signs

not_below : (n : ℕ) → pos 0 ≤ℤ pos n
not_below n = omega (arith, ints)

not_above : (n : ℕ) → neg_ℤ (pos n) ≤ℤ pos 0
not_above zero = omega (arith, ints)
not_above (suc n) = omega (arith, ints)

rem_of_zero : (d : ℕ) → pos (0 % d) ≤ℤ pos 0
rem_of_zero zero = omega (arith, ints)
rem_of_zero (suc d) = omega (arith, ints)

at_least_zero : (t : Bool) (a b : ℤ) → pos 0 ≤ℤ a → pos 0 ≤ℤ cond t (pos 0) (int_rem a b)
at_least_zero true a b from = omega (arith, ints)
at_least_zero false (pos n) b from = not_below (n % unsigned_abs b)
at_least_zero false (negsuc n) b from = absurd (omega (arith, ints))

at_most_zero : (t : Bool) (a b : ℤ) → a ≤ℤ pos 0 → cond t (pos 0) (int_rem a b) ≤ℤ pos 0
at_most_zero true a b to = omega (arith, ints)
at_most_zero false (pos zero) b to = rem_of_zero (unsigned_abs b)
at_most_zero false (pos (suc n)) b to = absurd (omega (arith, ints))
at_most_zero false (negsuc n) b to = not_above (suc n % unsigned_abs b)

pub remainder_has_the_sign : RemainderHasTheSign
remainder_has_the_sign a b = (at_least_zero (is_zero b) a b, at_most_zero (is_zero b) a b)

-- ---- overflow

fit_without : (exact fit zero_divisor : Bool) → exact ≡ true → (exact && (not fit || zero_divisor)) ≡ false → fit ≡ true
fit_without true true z is none = refl
fit_without true false z is none = cc
fit_without false fit z is none = cc

pub stored_is_exact : StoredIsExact
stored_is_exact op kind b exact is none =
    value_in_range_is_kept kind exact (fit_without (is_exact op) (fits kind exact) (divides op && is_zero b) is none)
