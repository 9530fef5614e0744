use Rattle.std.proofs.Common.{◌≡◌, ◌+◌, ◌≤◌, length, rules, arith}
use Rattle.std.specs.Fmt.{decimal}
use Rattle.std.proofs.lemmas.Fmt.{length-decimal-le}
use Rattle.lgx_watch.proofs.heads.push_head.Goals as goal

pub write_digits-start-requires : goal.write_digits-start-requires
write_digits-start-requires c =
    let few : length (decimal c.args.tick) ≤ 10 = search (rules, length-decimal-le 10) in
    let word = c.write_word-words.ensures.start in
    let steps = c.write_count-steps.ensures.start in
    (rw c.from.ensures (omega (arith, few, word, steps, c.requires)), omega (arith, word, steps, c.requires))
