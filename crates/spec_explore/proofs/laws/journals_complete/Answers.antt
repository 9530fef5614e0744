-- By what is left to be made.
use Rattle.spec_explore.proofs.Completing.{partial_journals_complete, never_is_exact}
use Rattle.spec_explore.proofs.laws.journals_complete.Goals as goal

pub returns-clause-complete : goal.returns-clause-complete
returns-clause-complete c = partial_journals_complete

pub returns-clause-exact : goal.returns-clause-exact
returns-clause-exact c = never_is_exact
