use Rattle.spec_valid.proofs.Accepted.{accepted_is_valid}
use Rattle.spec_valid.proofs.Given.{given_is_valid}
use Rattle.spec_valid.proofs.laws.accepted_is_valid.Goals as goal

pub returns-clause-accepted : goal.returns-clause-accepted
returns-clause-accepted c = accepted_is_valid

pub returns-clause-given : goal.returns-clause-given
returns-clause-given c = given_is_valid
