use Rattle.lgx_rung.proofs.Causes.{cause_of_read, read_of_cause}
use Rattle.lgx_rung.proofs.Laws.{read_spelled, spells_read}
use Rattle.lgx_rung.proofs.text.texts_are_read.Goals as goal

pub returns-clause-rung : goal.returns-clause-rung
returns-clause-rung c = λ text r. (spells_read text r, read_spelled text r)

pub returns-clause-fault : goal.returns-clause-fault
returns-clause-fault c = λ text f. (cause_of_read text f, read_of_cause text f)
