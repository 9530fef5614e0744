-- The texts compute once the digits of numbers do.
use Rattle.std.proofs.Common.{refl}
use Rattle.std.specs.Fmt.{digits}
use Rattle.test_cases.proofs.journal_cases.journals_are_written.Goals as goal

pub returns-clause-paced : goal.returns-clause-paced
unfolding digits
returns-clause-paced c = refl

pub returns-clause-tested : goal.returns-clause-tested
unfolding digits
returns-clause-tested c = refl

pub returns-clause-one_program : goal.returns-clause-one_program
unfolding digits
returns-clause-one_program c = refl

pub returns-clause-edits : goal.returns-clause-edits
unfolding digits
returns-clause-edits c = refl

pub returns-clause-words : goal.returns-clause-words
unfolding digits
returns-clause-words c = refl
