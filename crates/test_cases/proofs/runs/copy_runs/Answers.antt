-- The runs compute once the digits of numbers do.
use Rattle.std.proofs.Common.{refl}
use Rattle.std.specs.Fmt.{digits}
use Rattle.test_cases.proofs.runs.copy_runs.Goals as goal

pub returns-clause-torn : goal.returns-clause-torn
unfolding digits
returns-clause-torn c = refl

pub returns-clause-whole : goal.returns-clause-whole
unfolding digits
returns-clause-whole c = refl

pub returns-clause-fill : goal.returns-clause-fill
unfolding digits
returns-clause-fill c = refl

pub returns-clause-short_source : goal.returns-clause-short_source
unfolding digits
returns-clause-short_source c = refl

pub returns-clause-held : goal.returns-clause-held
unfolding digits
returns-clause-held c = refl
