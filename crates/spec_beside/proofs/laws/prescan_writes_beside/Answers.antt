use Rattle.spec_beside.proofs.Prescans.{prescan_writes_beside}
use Rattle.spec_beside.proofs.laws.prescan_writes_beside.Goals as goal

pub returns : goal.returns
returns c = prescan_writes_beside
