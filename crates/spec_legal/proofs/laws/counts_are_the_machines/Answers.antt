-- The counts go along with the states.
use Rattle.spec_legal.proofs.CountedRuns.{counts_are_the_machines, numbers_are_the_books}
use Rattle.spec_legal.proofs.laws.counts_are_the_machines.Goals as goal

pub returns-clause-tasks : goal.returns-clause-tasks
returns-clause-tasks c = counts_are_the_machines

pub returns-clause-texts : goal.returns-clause-texts
returns-clause-texts c = numbers_are_the_books
