use Rattle.lgx_rung.proofs.Laws.{one_rung}
use Rattle.lgx_rung.proofs.text.text_spells_one_rung.Goals as goal

pub returns : goal.returns
returns c = one_rung
