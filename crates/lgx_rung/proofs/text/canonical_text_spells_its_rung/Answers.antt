use Rattle.lgx_rung.proofs.Laws.{canon_spells}
use Rattle.lgx_rung.proofs.text.canonical_text_spells_its_rung.Goals as goal

pub returns : goal.returns
returns c = canon_spells
