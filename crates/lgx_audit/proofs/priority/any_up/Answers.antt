use Rattle.std.proofs.Common.{arith, sym, true}
use Rattle.std.proofs.lemmas.Bool.{and_from, and_left}
use Rattle.std.proofs.Common.{refl}
use Rattle.lgx_audit.proofs.Listed.{any_here, any_nowhere}
use Rattle.lgx_audit.proofs.priority.any_up.Goals as goal

pub returns-then-count : goal.returns-then-count
returns-then-count c cs h =
    sym (any_here (λ d. true) c.args.tasks.now c.args.counts.now cs h c.requires c.loop-count.count-index (let m = c.requires in let e = c.loop-count-test.true in omega arith)
    (and_from _ true c.if-count.true refl))

pub returns : goal.returns
returns c cs h =
    sym (any_nowhere (λ d. true) c.args.tasks.now c.args.counts.now cs h c.requires
    (λ t within. and_left _ true (c.loop-count.invariant t (let m = c.requires in let e = c.loop-count-test.false in omega arith))))
