use Rattle.lgx_watch.proofs.EventLines.{one_more_event}
use Rattle.lgx_watch.proofs.laws.law_of_events.Goals as goal

pub returns : goal.returns
returns c = one_more_event
