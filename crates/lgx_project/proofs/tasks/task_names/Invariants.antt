use Rattle.std.proofs.Common.{◌≡◌, map, take}
use Rattle.spec_machine.specs.ValidProject.{is_event}
use Rattle.spec_language.specs.declared.names.TaskName.{TaskName}
use Rattle.spec_project.specs.declared.described.DescribedTask.{DescribedTask}
use Rattle.lgx_project.proofs.tasks.task_names.Given as goal

abbrev task_name : DescribedTask → TaskName
task_name t = record { name = t.name; event = is_event t.def.kind }

abbrev pub invariant-loop-i : goal.invariant-loop-i
invariant-loop-i l = l.names.items ≡ map task_name (take l.i l.file.tasks)
