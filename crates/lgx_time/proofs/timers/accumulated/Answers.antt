use Rattle.std.proofs.Common.{◌≡◌, ℤ, pos, negsuc, ◌+ℤ◌, ◌-ℤ◌, ◌≤ℤ◌, arith, ap, ◌∙◌, w32, w64, to_z, of_z}
use Rattle.std.specs.Int.{int_min, int_max}
use Rattle.std.proofs.lemmas.Int.{ints, clamps, to_z-of_z}
use Rattle.lgx_time.proofs.timers.accumulated.Goals as goal

pub overflow_add-accumulated : goal.overflow_add-accumulated
overflow_add-accumulated c = omega (arith, ints, clamps)

pub overflow_cast-result : goal.overflow_cast-result
overflow_cast-result c =
    let most : c.max.result ≤ℤ pos 6442450943 = omega (arith, ints, clamps) in
    let some : pos 0 ≤ℤ c.max.result = omega (arith, ints, clamps) in
    let high : c.min.result ≤ℤ pos 2147483647 = omega (arith, ints) in
    let low : negsuc 2147483647 ≤ℤ c.min.result = omega (arith, ints, clamps) in
    omega (arith, ints)

min_commutes : (x y : ℤ) → int_min x y ≡ int_min y x
min_commutes x y = omega (arith, ints, clamps)

pub returns : goal.returns
returns c =
    let since : c.max.result ≡ int_max (pos 0) (pos c.args.now -ℤ c.args.last_tick) = omega (arith, ints, clamps) in
    let most : c.max.result ≤ℤ pos 6442450943 = omega (arith, ints, clamps) in
    let some : pos 0 ≤ℤ c.max.result = omega (arith, ints, clamps) in
    let sum : to_z w64 (of_z w64 (to_z w64 (of_z w64 c.from-3.result) +ℤ to_z w64 (of_z w64 c.max.result))) ≡ c.args.acc +ℤ c.max.result = omega (arith, ints) in
    let limit : to_z w64 (of_z w64 c.from-4.result) ≡ pos 2147483647 = omega (arith, ints) in
    let least : c.min.result ≡ int_min (pos 2147483647) (c.args.acc +ℤ c.max.result) = cc (min_commutes (c.args.acc +ℤ c.max.result) (pos 2147483647)) in
    to_z-of_z w32 _ (overflow_cast-result c)
    ∙ to_z-of_z w64 c.min.result (record { sfits = c.min.type_inv })
    ∙ least
    ∙ ap (λ m. int_min (pos 2147483647) (c.args.acc +ℤ m)) since
