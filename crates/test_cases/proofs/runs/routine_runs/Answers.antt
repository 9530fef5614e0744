-- The runs compute once the digits of numbers do.
use Rattle.std.proofs.Common.{refl}
use Rattle.std.specs.Fmt.{digits}
use Rattle.test_cases.proofs.runs.routine_runs.Goals as goal

pub returns-clause-zone : goal.returns-clause-zone
unfolding digits
returns-clause-zone c = refl

pub returns-clause-jump : goal.returns-clause-jump
unfolding digits
returns-clause-jump c = refl

pub returns-clause-call : goal.returns-clause-call
unfolding digits
returns-clause-call c = refl

pub returns-clause-depth : goal.returns-clause-depth
unfolding digits
returns-clause-depth c = refl
