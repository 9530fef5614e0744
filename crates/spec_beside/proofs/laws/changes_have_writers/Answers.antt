-- By the kind of the event, and what holds of each task's scan before it.
use Rattle.spec_beside.proofs.Writers.{changes_have_writers}
use Rattle.spec_beside.proofs.laws.changes_have_writers.Goals as goal

pub returns : goal.returns
returns c = changes_have_writers
