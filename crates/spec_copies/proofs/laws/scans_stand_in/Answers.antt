-- Each change keeps a scan in its rungs.
use Rattle.spec_copies.proofs.Standing.{scans_stand_in}
use Rattle.spec_copies.proofs.laws.scans_stand_in.Goals as goal

pub returns : goal.returns
returns c = scans_stand_in
