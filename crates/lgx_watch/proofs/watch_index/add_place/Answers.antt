use Rattle.std.proofs.Common.{◌≡◌, ◌+◌, arith}
use Rattle.lgx_watch.specs.Watches.{last_word}
use Rattle.lgx_watch.proofs.Spanned.{first-le-last}
use Rattle.lgx_watch.proofs.watch_index.add_place.Goals as goal

pub returns : goal.returns
returns c =
    let order = first-le-last c.args.place in
    let done : c.loop-word.word ≡ last_word c.args.place + 1 = omega arith in
    rw (← done) c.loop-word.invariant
