-- The runs compute once the digits of numbers do.
use Rattle.std.proofs.Common.{refl}
use Rattle.std.specs.Fmt.{digits}
use Rattle.test_cases.proofs.link_cases.links_are_run.Goals as goal

pub returns-clause-reordered : goal.returns-clause-reordered
unfolding digits
returns-clause-reordered c = refl

pub returns-clause-held : goal.returns-clause-held
unfolding digits
returns-clause-held c = refl
