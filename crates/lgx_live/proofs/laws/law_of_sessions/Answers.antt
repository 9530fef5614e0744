use Rattle.lgx_live.proofs.Sessions.{sessions_are_journals}
use Rattle.lgx_live.proofs.laws.law_of_sessions.Goals as goal

pub returns : goal.returns
returns c = sessions_are_journals
