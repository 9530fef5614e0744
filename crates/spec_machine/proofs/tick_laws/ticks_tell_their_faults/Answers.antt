use Rattle.spec_machine.proofs.TickFaults.{ticks_tell, masks_of_tasks, ticks_keep_tasks}
use Rattle.spec_machine.proofs.tick_laws.ticks_tell_their_faults.Goals as goal

pub returns-clause-faults : goal.returns-clause-faults
returns-clause-faults c = ticks_tell

pub returns-clause-masks : goal.returns-clause-masks
returns-clause-masks c = masks_of_tasks

pub returns-clause-tasks : goal.returns-clause-tasks
returns-clause-tasks c = ticks_keep_tasks
