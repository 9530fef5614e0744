use Rattle.std.proofs.Common.{◌≡◌, ◌+◌, ◌≤◌, length, arith, rules}
use Rattle.std.specs.Fmt.{decimal}
use Rattle.std.proofs.lemmas.Fmt.{length-decimal-le}
use Rattle.lgx_watch.proofs.heads.write_count.Goals as goal

pub write_digits-after-requires : goal.write_digits-after-requires
write_digits-after-requires c =
    let few : length (decimal c.args.number) ≤ 10 = search (rules, length-decimal-le 10) in
    (rw c.from.ensures (omega (arith, few, c.requires)), c.requires.1)

pub write_space-requires : goal.write_space-requires
write_space-requires c =
    let few : length (decimal c.args.number) ≤ 10 = search (rules, length-decimal-le 10) in
    let start : c.write_digits-after.result + length (decimal c.args.number) ≡ c.args.end = rw (← c.from.ensures) c.write_digits-after.ensures.start in
    (omega (arith, few, start, c.requires), omega (arith, start, c.requires))

pub returns-clause-start : goal.returns-clause-start
returns-clause-start c =
    let few : length (decimal c.args.number) ≤ 10 = search (rules, length-decimal-le 10) in
    let start : c.write_digits-after.result + length (decimal c.args.number) ≡ c.args.end = rw (← c.from.ensures) c.write_digits-after.ensures.start in
    let space = c.write_space.ensures.start in
    (omega (arith, start, space), omega (arith, few, start, space))
