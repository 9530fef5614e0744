-- The bits of a mask.
use Rattle.std.proofs.Common.{◌≡◌, ℕ, ◌+◌, ◌*◌, ◌/◌, ◌<◌, ◌≤◌, ◌^◌, Bool, true, false, sym, ◌∙◌, ap, subst, refl, arith, eq-eqb, true≢false}
use Rattle.std.specs.Prelude.{nat_eq, nat_lt}
use Rattle.std.proofs.Math.Nat.{pow-le-pow_right, div-eq_of_lt, lt-div-mul-add}
use Rattle.std.proofs.lemmas.Bool.{ne_eqb, lt-ltb, ltb-true}
use Rattle.std.proofs.lemmas.Nat.{pow_pos}
use Rattle.std.proofs.lemmas.Nat.Bits.{bit_at_above}
use Rattle.spec_schedule.specs.Counting.{has_bit}

-- a mask of 32 bits has none of a task beyond them
pub bit_beyond : (mask t : ℕ) → mask < 2 ^ 32 → 32 ≤ t → has_bit mask t ≡ false
bit_beyond mask t h k = ap (λ n. nat_eq n 1) (bit_at_above mask 32 t h k)

-- with 32 tasks each bit is a task's
pub all_fit : (mask tasks : ℕ) → mask < 2 ^ 32 → 32 ≤ tasks → nat_lt mask (2 ^ tasks) ≡ true
all_fit mask tasks h k =
    let most = pow-le-pow_right {n = 2} (omega arith) {i = 32} {j = tasks} k in
    lt-ltb mask (2 ^ tasks) (omega arith)

-- nothing is left of a mask that is shifted by the number of tasks, exactly if each bit is a task's
pub shifted_out : (mask tasks : ℕ) → nat_eq (mask / 2 ^ tasks) 0 ≡ nat_lt mask (2 ^ tasks)
shifted_out mask tasks = go (nat_lt mask (2 ^ tasks)) refl
  where
    go : (b : Bool) → nat_lt mask (2 ^ tasks) ≡ b → nat_eq (mask / 2 ^ tasks) 0 ≡ b
    go true h = eq-eqb (mask / 2 ^ tasks) 0 (div-eq_of_lt (ltb-true mask (2 ^ tasks) h))
    go false h = ne_eqb (mask / 2 ^ tasks) 0 (λ z.
        let near = subst (λ q. mask < q * 2 ^ tasks + 2 ^ tasks) z (lt-div-mul-add {a = mask} {b = 2 ^ tasks} (pow_pos tasks)) in
        let below : mask < 2 ^ tasks = omega arith in
        true≢false (sym (lt-ltb mask (2 ^ tasks) below) ∙ h))
