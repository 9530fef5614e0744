use Rattle.std.proofs.Common.{◌∙◌, arith}
use Rattle.lgx_live.proofs.Lines.{kept_more, kept_full}
use Rattle.lgx_live.proofs.reading.keep.Goals as goal

pub returns-in-Ok : goal.returns-in-Ok
returns-in-Ok c = λ raw is. c.in-Ok.ensures.items ∙ kept_more raw c.args.line.now.items c.args.byte is (omega (arith, c.if-len.true, c.len.ensures))

pub returns-else-len : goal.returns-else-len
returns-else-len c = λ raw is. kept_full raw c.args.line.now.items c.args.byte is (omega (arith, c.if-len.false, c.len.ensures))
