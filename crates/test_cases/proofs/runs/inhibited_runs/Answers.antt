-- The runs compute once the digits of numbers do.
use Rattle.std.proofs.Common.{refl}
use Rattle.std.specs.Fmt.{digits}
use Rattle.test_cases.proofs.runs.inhibited_runs.Goals as goal

pub returns-clause-periodic : goal.returns-clause-periodic
unfolding digits
returns-clause-periodic c = refl

pub returns-clause-event : goal.returns-clause-event
unfolding digits
returns-clause-event c = refl

pub returns-clause-continuous : goal.returns-clause-continuous
unfolding digits
returns-clause-continuous c = refl
