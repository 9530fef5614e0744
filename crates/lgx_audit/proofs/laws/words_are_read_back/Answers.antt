use Rattle.lgx_audit.proofs.LinesBack.{event_back}
use Rattle.lgx_audit.proofs.laws.words_are_read_back.Goals as goal

pub returns : goal.returns
returns c event kept = event_back event kept
