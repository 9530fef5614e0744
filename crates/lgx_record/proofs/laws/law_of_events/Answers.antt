use Rattle.lgx_record.proofs.FewLines.{keeps_an_event}
use Rattle.lgx_record.proofs.laws.law_of_events.Goals as goal

pub returns : goal.returns
returns c = keeps_an_event
