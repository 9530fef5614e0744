use Rattle.lgx_journal.proofs.TextsBack.{one_reading}
use Rattle.lgx_journal.proofs.laws.lines_have_one_reading.Goals as goal

pub returns : goal.returns
returns c runs others h k e = one_reading runs others h k e
