use Rattle.std.proofs.Common.{arith}
use Rattle.lgx_watch.proofs.BitSets.{bits_joined}
use Rattle.lgx_watch.proofs.bits.join_bits.Goals as goal

pub returns : goal.returns
returns c = bits_joined c.args.words.now c.args.more.now c.loop-at.words (omega arith) (omega arith) (omega arith) (λ k within. c.loop-at.invariant.joined k (omega arith))
