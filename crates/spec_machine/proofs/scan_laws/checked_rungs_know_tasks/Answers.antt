use Rattle.spec_machine.proofs.CheckedTasks.{checked_know_tasks}
use Rattle.spec_machine.proofs.scan_laws.checked_rungs_know_tasks.Goals as goal

pub returns : goal.returns
returns c = checked_know_tasks
