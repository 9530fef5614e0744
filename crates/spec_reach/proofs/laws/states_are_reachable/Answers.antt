-- The laws of reached states, gathered.
use Rattle.spec_reach.proofs.Reachable.{start_is_after, events_lead_on, all_is_reachable}
use Rattle.spec_reach.proofs.laws.states_are_reachable.Goals as goal

pub returns-clause-start : goal.returns-clause-start
returns-clause-start c = start_is_after

pub returns-clause-next : goal.returns-clause-next
returns-clause-next c = events_lead_on

pub returns-clause-all : goal.returns-clause-all
returns-clause-all c = all_is_reachable
