use Rattle.spec_scan.proofs.KeptReturns.{steps_keep_returns}
use Rattle.spec_scan.proofs.scan_laws.steps_keep_returns.Goals as goal

pub returns : goal.returns
returns c = steps_keep_returns
