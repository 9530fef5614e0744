use Rattle.spec_beside.proofs.Rows.{rows_keep}
use Rattle.spec_beside.proofs.Steps.{steps_write_beside}
use Rattle.spec_beside.proofs.laws.rows_write_beside.Goals as goal

pub returns-clause-rows : goal.returns-clause-rows
returns-clause-rows c = rows_keep

pub returns-clause-steps : goal.returns-clause-steps
returns-clause-steps c = steps_write_beside
