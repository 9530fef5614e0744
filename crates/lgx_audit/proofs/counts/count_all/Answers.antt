use Rattle.std.proofs.Common.{arith}
use Rattle.lgx_audit.proofs.Listed.{all_shown}
use Rattle.lgx_audit.proofs.counts.count_all.Goals as goal

pub returns-clause-counts : goal.returns-clause-counts
returns-clause-counts c cs h =
    all_shown c.args.tasks.now c.args.e.now c.args.counts.now c.loop-t.counts cs c.requires.many c.loop-t.auto.counts h
    (λ k within x is. c.loop-t.invariant.0 k (let m = c.requires.many in let e = c.loop-t-test.false in omega arith) x is)
