use Rattle.std.proofs.Common.{arith, sym}
use Rattle.std.specs.Prelude.{nat_lt, slice_index_or}
use Rattle.std.proofs.lemmas.Bool.{and_from, lt-ltb}
use Rattle.spec_schedule.specs.Legal.{no_task}
use Rattle.lgx_audit.proofs.Listed.{any_here, any_nowhere}
use Rattle.lgx_audit.proofs.priority.higher_up.Goals as goal

pub returns-then-tasks-t : goal.returns-then-tasks-t
returns-then-tasks-t c cs h =
    sym (any_here (λ d. nat_lt d.priority c.args.below) c.args.tasks.now c.args.counts.now cs h c.requires c.loop-t.t (let m = c.requires in let e = c.loop-t-test.true in omega arith)
    (and_from _ (nat_lt (slice_index_or c.args.tasks.now c.loop-t.t no_task).priority c.args.below) c.if-count.true (lt-ltb _ _ c.if-tasks-t.true)))

pub returns : goal.returns
returns c cs h =
    sym (any_nowhere (λ d. nat_lt d.priority c.args.below) c.args.tasks.now c.args.counts.now cs h c.requires
    (λ t within. c.loop-t.invariant t (let m = c.requires in let e = c.loop-t-test.false in omega arith)))
