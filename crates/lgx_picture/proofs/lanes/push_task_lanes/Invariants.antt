use Rattle.std.proofs.Common.{◌≡◌, ◌++◌, map, take}
use Rattle.lgx_picture.specs.declared.lanes.Lane.TheVariants.{Task}
use Rattle.lgx_picture.proofs.lanes.push_task_lanes.Given as goal

abbrev pub invariant-loop-task : goal.invariant-loop-task
invariant-loop-task l = l.lanes.items ≡ l.initial.lanes.items ++ map Task (take l.task-index l.tasks)
