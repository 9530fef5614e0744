-- The runs compute once the digits of numbers do.
use Rattle.std.proofs.Common.{refl}
use Rattle.std.specs.Fmt.{digits}
use Rattle.test_cases.proofs.runs.task_runs.Goals as goal

pub returns-clause-preemption : goal.returns-clause-preemption
unfolding digits
returns-clause-preemption c = refl

pub returns-clause-regions : goal.returns-clause-regions
unfolding digits
returns-clause-regions c = refl

pub returns-clause-scan_end : goal.returns-clause-scan_end
unfolding digits
returns-clause-scan_end c = refl

pub returns-clause-programs : goal.returns-clause-programs
unfolding digits
returns-clause-programs c = refl

pub returns-clause-at_tick : goal.returns-clause-at_tick
unfolding digits
returns-clause-at_tick c = refl

pub returns-clause-turns : goal.returns-clause-turns
unfolding digits
returns-clause-turns c = refl

pub returns-clause-watchdog : goal.returns-clause-watchdog
unfolding digits
returns-clause-watchdog c = refl

pub returns-clause-open_loop : goal.returns-clause-open_loop
unfolding digits
returns-clause-open_loop c = refl

pub returns-clause-three : goal.returns-clause-three
unfolding digits
returns-clause-three c = refl

pub returns-clause-released_again : goal.returns-clause-released_again
unfolding digits
returns-clause-released_again c = refl
