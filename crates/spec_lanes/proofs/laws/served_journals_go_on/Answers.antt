-- Each event appends to the journal what the counts tell.
use Rattle.spec_lanes.proofs.Acting.{due_actions_serve}
use Rattle.spec_lanes.proofs.Stepping.{steps_serve}
use Rattle.spec_lanes.proofs.Serving.{opening_is_served, counts_tell, few_events_serve}
use Rattle.spec_lanes.proofs.laws.served_journals_go_on.Goals as goal

pub returns-clause-opening : goal.returns-clause-opening
returns-clause-opening c = opening_is_served

pub returns-clause-actions : goal.returns-clause-actions
returns-clause-actions c = due_actions_serve

pub returns-clause-steps : goal.returns-clause-steps
returns-clause-steps c = steps_serve

pub returns-clause-counts : goal.returns-clause-counts
returns-clause-counts c = counts_tell

pub returns-clause-few : goal.returns-clause-few
returns-clause-few c = few_events_serve
