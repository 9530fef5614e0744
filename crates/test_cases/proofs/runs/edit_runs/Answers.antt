-- The runs compute once the digits of numbers do.
use Rattle.std.proofs.Common.{refl}
use Rattle.std.specs.Fmt.{digits}
use Rattle.test_cases.proofs.runs.edit_runs.Goals as goal

pub returns-clause-selected : goal.returns-clause-selected
unfolding digits
returns-clause-selected c = refl

pub returns-clause-mid_scan : goal.returns-clause-mid_scan
unfolding digits
returns-clause-mid_scan c = refl

pub returns-clause-owners : goal.returns-clause-owners
unfolding digits
returns-clause-owners c = refl

pub returns-clause-order : goal.returns-clause-order
unfolding digits
returns-clause-order c = refl

pub returns-clause-label : goal.returns-clause-label
unfolding digits
returns-clause-label c = refl

pub returns-clause-refusals : goal.returns-clause-refusals
unfolding digits
returns-clause-refusals c = refl

pub returns-clause-while_testing : goal.returns-clause-while_testing
unfolding digits
returns-clause-while_testing c = refl
