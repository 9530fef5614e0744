use Rattle.std.proofs.Common.{◌≤◌, length, rules, arith}
use Rattle.std.specs.Fmt.{decimal}
use Rattle.std.proofs.lemmas.Fmt.{length-decimal-le}
use Rattle.lgx_watch.proofs.digits.push_count.Goals as goal

pub write_digits-after-requires : goal.write_digits-after-requires
write_digits-after-requires c = search (rules, length-decimal-le 20)

pub write_space-space-requires : goal.write_space-space-requires
write_space-space-requires c =
    let few : length (decimal c.args.number) ≤ 20 = search (rules, length-decimal-le 20) in
    (omega (arith, few, c.write_digits-after.ensures.start), omega (arith, c.write_digits-after.ensures.start))
