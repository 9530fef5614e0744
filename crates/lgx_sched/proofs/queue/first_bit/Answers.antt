-- The trailing zeros of a word that isn't 0 are the place of its least 1.
use Rattle.std.proofs.Common.{arith}
use Rattle.std.specs.Int.{w32}
use Rattle.std.proofs.lemmas.Nat.Bits.{bit_at-trailing_zeros}
use Rattle.lgx_sched.proofs.queue.first_bit.Goals as goal

pub returns-else-word-eq0 : goal.returns-else-word-eq0
returns-else-word-eq0 c =
    let first = bit_at-trailing_zeros w32 c.args.word (omega arith) c.ranges.word.fits in
    (first.1, first.2)
