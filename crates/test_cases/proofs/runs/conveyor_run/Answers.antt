-- The runs compute once the digits of numbers do.
use Rattle.std.proofs.Common.{refl}
use Rattle.std.specs.Fmt.{digits}
use Rattle.test_cases.proofs.runs.conveyor_run.Goals as goal

pub returns : goal.returns
unfolding digits
returns c = refl
