-- An accept checks what it merges.
use Rattle.spec_reach.proofs.Texts.{books_can_run, scans_can_run}
use Rattle.spec_reach.proofs.laws.rungs_can_run.Goals as goal

pub returns-clause-books : goal.returns-clause-books
returns-clause-books c = books_can_run

pub returns-clause-scans : goal.returns-clause-scans
returns-clause-scans c = scans_can_run
