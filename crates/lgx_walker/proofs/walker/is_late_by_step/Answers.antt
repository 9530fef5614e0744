-- At the tick after the present one.
use Rattle.std.proofs.Common.{◌+◌, ap}
use Rattle.spec_machine.specs.Machine.{run}
use Rattle.lgx_walker.proofs.Counted.{now_is}
use Rattle.lgx_walker.proofs.Windows.{late_then, none_late_then}
use Rattle.lgx_walker.proofs.walker.is_late_by_step.Goals as goal

pub returns-clause-some : goal.returns-clause-some
returns-clause-some c = λ late p journal w.
    late_then c.args.within c.args.script.now _ _ _ _ c.as_slice.ensures
    (ap (λ n. n + 1) (now_is p journal c.now-tick.result (c.now-tick.ensures (run p journal) w.stands_for.represents))) (c.is_some_late.ensures.some late)

pub returns-clause-none : goal.returns-clause-none
returns-clause-none c = λ none ticks p journal w.
    none_late_then c.args.within c.args.script.now _ _ _ _ c.as_slice.ensures
    (ap (λ n. n + 1) (now_is p journal c.now-tick.result (c.now-tick.ensures (run p journal) w.stands_for.represents))) (c.is_some_late.ensures.none none)
