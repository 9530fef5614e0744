use Rattle.lgx_audit.proofs.OwnTraces.{runs_pass_audit}
use Rattle.lgx_audit.proofs.laws.runs_pass_audit.Goals as goal

pub returns : goal.returns
returns c = runs_pass_audit
