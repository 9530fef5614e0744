use Rattle.std.proofs.Common.{arith}
use Rattle.lgx_types.proofs.Verdicts.{each_index}
use Rattle.lgx_types.proofs.table.too_large.Goals as goal

pub returns-clause-none : goal.returns-clause-none
returns-clause-none c = each_index c.args.sizes.now (λ i h. c.loop-i.invariant i (omega (arith, h)))
