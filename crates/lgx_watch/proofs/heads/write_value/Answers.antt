use Rattle.std.proofs.Common.{◌≡◌, ◌+◌, ◌≤◌, length, length-set, arith}
use Rattle.std.specs.Fmt.{decimal}
use Rattle.std.proofs.lemmas.Fmt.{length-decimal-le}
use Rattle.lgx_watch.proofs.heads.write_value.Goals as goal

pub write_digits-after-requires : goal.write_digits-after-requires
write_digits-after-requires c =
    let few : length (decimal c.unsigned_abs.result) ≤ 10 = length-decimal-le 10 c.unsigned_abs.result (omega arith) (omega arith) (omega arith) in
    (rw c.from.ensures (omega (arith, few, c.requires)), c.requires.1)

pub write_space-requires : goal.write_space-requires
write_space-requires c =
    let few : length (decimal c.unsigned_abs.result) ≤ 10 = length-decimal-le 10 c.unsigned_abs.result (omega arith) (omega arith) (omega arith) in
    let start : c.write_digits-after.result + length (decimal c.unsigned_abs.result) ≡ c.args.end = rw (← c.from.ensures) c.write_digits-after.ensures.start in
    (omega (arith, few, start, c.requires), omega (arith, start, c.requires))

pub returns-then-value-ge0-clause-start : goal.returns-then-value-ge0-clause-start
returns-then-value-ge0-clause-start c =
    let few : length (decimal c.unsigned_abs.result) ≤ 10 = length-decimal-le 10 c.unsigned_abs.result (omega arith) (omega arith) (omega arith) in
    let start : c.write_digits-after.result + length (decimal c.unsigned_abs.result) ≡ c.args.end = rw (← c.from.ensures) c.write_digits-after.ensures.start in
    let space = c.write_space.ensures.start in
    (omega (arith, start, space), omega (arith, few, start, space))

pub overflow_sub-sign : goal.overflow_sub-sign
overflow_sub-sign c =
    let few : length (decimal c.unsigned_abs.result) ≤ 10 = length-decimal-le 10 c.unsigned_abs.result (omega arith) (omega arith) (omega arith) in
    let start : c.write_digits-after.result + length (decimal c.unsigned_abs.result) ≡ c.args.end = rw (← c.from.ensures) c.write_digits-after.ensures.start in
    omega (arith, few, start, c.requires)

pub write_space-requires-2 : goal.write_space-requires-2
write_space-requires-2 c =
    let few : length (decimal c.unsigned_abs.result) ≤ 10 = length-decimal-le 10 c.unsigned_abs.result (omega arith) (omega arith) (omega arith) in
    let start : c.write_digits-after.result + length (decimal c.unsigned_abs.result) ≡ c.args.end = rw (← c.from.ensures) c.write_digits-after.ensures.start in
    (omega (arith, few, start, c.requires), rw length-set (omega (arith, start, c.requires)))

pub returns-clause-start : goal.returns-clause-start
returns-clause-start c =
    let few : length (decimal c.unsigned_abs.result) ≤ 10 = length-decimal-le 10 c.unsigned_abs.result (omega arith) (omega arith) (omega arith) in
    let start : c.write_digits-after.result + length (decimal c.unsigned_abs.result) ≡ c.args.end = rw (← c.from.ensures) c.write_digits-after.ensures.start in
    let space = c.write_space-2.ensures.start in
    (omega (arith, start, space), omega (arith, few, start, space, c.requires))
