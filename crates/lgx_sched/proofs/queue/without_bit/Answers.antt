-- One bit is cleared.
use Rattle.std.specs.Int.{w32}
use Rattle.std.proofs.lemmas.Nat.Bits.{bit_at_clear_same}
use Rattle.lgx_sched.proofs.ReadyBits.{cleared-other}
use Rattle.lgx_sched.proofs.queue.without_bit.Goals as goal

pub returns-clause-cleared : goal.returns-clause-cleared
returns-clause-cleared c = bit_at_clear_same w32 c.args.word c.args.bit c.requires

pub returns-clause-others : goal.returns-clause-others
returns-clause-others c = λ other apart. cleared-other c.args.word c.args.bit other c.requires c.ranges.word.fits apart
