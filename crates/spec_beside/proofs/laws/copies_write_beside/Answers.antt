use Rattle.spec_beside.proofs.Copies.{copies_go_on, copies_start, elements_keep}
use Rattle.spec_beside.proofs.Steps.{steps_copy_beside}
use Rattle.spec_beside.proofs.laws.copies_write_beside.Goals as goal

pub returns-clause-starts : goal.returns-clause-starts
returns-clause-starts c = copies_start

pub returns-clause-goes_on : goal.returns-clause-goes_on
returns-clause-goes_on c = copies_go_on

pub returns-clause-elements : goal.returns-clause-elements
returns-clause-elements c = elements_keep

pub returns-clause-steps : goal.returns-clause-steps
returns-clause-steps c = steps_copy_beside
