use Rattle.std.proofs.Common.{◌≡◌, ◌+◌, ◌≤◌, length, rules, arith}
use Rattle.std.specs.Fmt.{decimal}
use Rattle.std.proofs.lemmas.Fmt.{length-decimal-le}
use Rattle.lgx_watch.proofs.digits.push_pair.Goals as goal

pub write_digits-after-requires : goal.write_digits-after-requires
write_digits-after-requires c =
    let few : length (decimal c.args.second) ≤ 10 = search (rules, length-decimal-le 10) in
    (rw c.from.ensures (omega (arith, few)), c.requires)

pub write_space-space-requires : goal.write_space-space-requires
write_space-space-requires c =
    let few : length (decimal c.args.second) ≤ 10 = search (rules, length-decimal-le 10) in
    let start : c.write_digits-after.result + length (decimal c.args.second) ≡ 21 = rw (← c.from.ensures) c.write_digits-after.ensures.start in
    (omega (arith, few, start), omega (arith, start, c.requires))

pub write_digits-start-requires : goal.write_digits-start-requires
write_digits-start-requires c =
    let few : length (decimal c.args.second) ≤ 10 = search (rules, length-decimal-le 10) in
    let short : length (decimal c.args.first) ≤ 10 = search (rules, length-decimal-le 10) in
    let start : c.write_digits-after.result + length (decimal c.args.second) ≡ 21 = rw (← c.from.ensures) c.write_digits-after.ensures.start in
    let space = c.write_space-space.ensures.start in
    (rw c.from-2.ensures (omega (arith, few, short, start, space)), omega (arith, start, space, c.requires))
