-- The laws are those of an orderly table.
use Rattle.spec_machine.proofs.OrderlyLaws.{one_open, up_in_run, inhibited_stay_down, ranks_differ, ranks_below_next, step_of_up_task}
use Rattle.spec_machine.proofs.task_laws.tasks_stay_orderly.Goals as goal

pub returns-clause-one_open : goal.returns-clause-one_open
returns-clause-one_open c = one_open

pub returns-clause-up_in_run : goal.returns-clause-up_in_run
returns-clause-up_in_run c = up_in_run

pub returns-clause-inhibited_stay_down : goal.returns-clause-inhibited_stay_down
returns-clause-inhibited_stay_down c = inhibited_stay_down

pub returns-clause-ranks_differ : goal.returns-clause-ranks_differ
returns-clause-ranks_differ c = ranks_differ

pub returns-clause-ranks_below_next : goal.returns-clause-ranks_below_next
returns-clause-ranks_below_next c = ranks_below_next

pub returns-clause-step_of_up_task : goal.returns-clause-step_of_up_task
returns-clause-step_of_up_task c = step_of_up_task
