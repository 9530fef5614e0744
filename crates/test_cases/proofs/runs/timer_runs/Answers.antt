-- The runs compute once the digits of numbers do.
use Rattle.std.proofs.Common.{refl}
use Rattle.std.specs.Fmt.{digits}
use Rattle.test_cases.proofs.runs.timer_runs.Goals as goal

pub returns-clause-over_ticks : goal.returns-clause-over_ticks
unfolding digits
returns-clause-over_ticks c = refl

pub returns-clause-retentive : goal.returns-clause-retentive
unfolding digits
returns-clause-retentive c = refl

pub returns-clause-off_delay : goal.returns-clause-off_delay
unfolding digits
returns-clause-off_delay c = refl

pub returns-clause-negative : goal.returns-clause-negative
unfolding digits
returns-clause-negative c = refl

pub returns-clause-backwards : goal.returns-clause-backwards
unfolding digits
returns-clause-backwards c = refl

pub returns-clause-rollover : goal.returns-clause-rollover
unfolding digits
returns-clause-rollover c = refl

pub returns-clause-down : goal.returns-clause-down
unfolding digits
returns-clause-down c = refl
