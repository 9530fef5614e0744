-- By the end of the journal; so by all that it did, one after another.
use Rattle.spec_explore.proofs.Growth.{partial_journals_grow}
use Rattle.spec_explore.proofs.Partials.{partial_journals_are_served}
use Rattle.spec_explore.proofs.laws.journals_grow.Goals as goal

pub returns-clause-grow : goal.returns-clause-grow
returns-clause-grow c = partial_journals_grow

pub returns-clause-served : goal.returns-clause-served
returns-clause-served c = partial_journals_are_served
