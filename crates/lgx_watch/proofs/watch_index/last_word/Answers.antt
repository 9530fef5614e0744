use Rattle.std.proofs.Common.{◌<◌, ◌^◌, arith, rules}
use Rattle.lgx_watch.proofs.Spanned.{last_word-small}
use Rattle.lgx_watch.proofs.watch_index.last_word.Goals as goal

pub returns-clause-small : goal.returns-clause-small
returns-clause-small c =
    let within : c.args.place.at < 2 ^ 32 = first_of (search rules, grind arith) in
    let small = last_word-small c.args.place within in
    rw (c.word_of.ensures, c.bytes_in.ensures) small
