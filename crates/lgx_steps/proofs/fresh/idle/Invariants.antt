use Rattle.std.proofs.Common.{◌≡◌, length}
use Rattle.std.specs.List.{AllByRecursion as Each}
use Rattle.lgx_steps.specs.PartsView.{IsIdle}
use Rattle.lgx_steps.proofs.fresh.idle.Given as goal

abbrev pub invariant-loop-task : goal.invariant-loop-task
invariant-loop-task l = record {
  many : length l.all.items ≡ l._task;
  idle : Each IsIdle l.all.items;
}
