-- Each event keeps the rungs of a scan.
use Rattle.spec_legal.proofs.Rungs.{scans_keep_rungs}
use Rattle.spec_legal.proofs.laws.scans_keep_rungs.Goals as goal

pub returns : goal.returns
returns c = scans_keep_rungs
