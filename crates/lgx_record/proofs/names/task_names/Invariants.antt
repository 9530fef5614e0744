use Rattle.std.proofs.Common.{◌≡◌, map, take}
use Rattle.lgx_record.proofs.names.task_names.Given as goal

abbrev pub invariant-loop-task : goal.invariant-loop-task
invariant-loop-task l = l.names.items ≡ map (λ x. x.name) (take l.task-index l.tasks)
