-- The runs compute once the digits of numbers do.
use Rattle.std.proofs.Common.{refl}
use Rattle.std.specs.Fmt.{digits}
use Rattle.test_cases.proofs.runs.arithmetic_runs.Goals as goal

pub returns-clause-overflow : goal.returns-clause-overflow
unfolding digits
returns-clause-overflow c = refl

pub returns-clause-subscript : goal.returns-clause-subscript
unfolding digits
returns-clause-subscript c = refl

pub returns-clause-limits : goal.returns-clause-limits
unfolding digits
returns-clause-limits c = refl

pub returns-clause-results : goal.returns-clause-results
unfolding digits
returns-clause-results c = refl

pub returns-clause-flags : goal.returns-clause-flags
unfolding digits
returns-clause-flags c = refl
