use Rattle.std.proofs.Common.{◌+◌}
use Rattle.std.proofs.lemmas.List.{take_rest}
use Rattle.spec_base.proofs.Splits.{pieces_at_mark}
use Rattle.lgx_num.proofs.text.split_first.Goals as goal

pub returns-then-byte-mark-clause-some : goal.returns-then-byte-mark-clause-some
returns-then-byte-mark-clause-some c =
    rw (take_rest c.args.text.now (c.loop-i.i + 1)) (pieces_at_mark c.args.mark c.args.text.now c.loop-i.i c.loop-i.invariant c.loop-i-test.true c.if-byte-mark.true)
