use Rattle.std.proofs.Common.{◌≡◌, ◌++◌, take}
use Rattle.std.specs.List.{flat_map}
use Rattle.lgx_chart.specs.Vcd.{idle_task}
use Rattle.lgx_chart.proofs.vcd.push_idle_tasks.Given as goal

abbrev pub invariant-loop-task : goal.invariant-loop-task
invariant-loop-task l = l.text.items ≡ l.initial.text.items ++ flat_map idle_task (take l.task-index l.tasks)
