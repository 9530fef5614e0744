-- At the present tick.
use Rattle.std.proofs.Common.{refl}
use Rattle.spec_machine.specs.Machine.{run}
use Rattle.lgx_walker.proofs.Counted.{now_is}
use Rattle.lgx_walker.proofs.Windows.{late_then, none_late_then}
use Rattle.lgx_walker.proofs.walker.is_late_now.Goals as goal

pub returns-clause-some : goal.returns-clause-some
returns-clause-some c = λ late p journal w.
    late_then c.args.within c.args.script.now c.args.counts.now c.args.counts.now _ _ refl
    (now_is p journal c.now.result (c.now.ensures (run p journal) w.stands_for.represents)) (c.is_some_late.ensures.some late)

pub returns-clause-none : goal.returns-clause-none
returns-clause-none c = λ none p journal w.
    none_late_then c.args.within c.args.script.now c.args.counts.now c.args.counts.now _ _ refl
    (now_is p journal c.now.result (c.now.ensures (run p journal) w.stands_for.represents)) (c.is_some_late.ensures.none none)
