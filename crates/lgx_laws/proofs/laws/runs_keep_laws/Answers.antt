use Rattle.lgx_laws.proofs.OwnTraces.{runs_keep_laws}
use Rattle.lgx_laws.proofs.laws.runs_keep_laws.Goals as goal

pub returns : goal.returns
returns c = runs_keep_laws
