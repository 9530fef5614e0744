-- At the end every tick that an action may wait for has come, and no CPS holds it.
use Rattle.spec_lanes.proofs.Serving.{none_is_left, all_is_complete}
use Rattle.spec_lanes.proofs.laws.whole_journals_are_complete.Goals as goal

pub returns-clause-left : goal.returns-clause-left
returns-clause-left c = none_is_left

pub returns-clause-complete : goal.returns-clause-complete
returns-clause-complete c = all_is_complete
