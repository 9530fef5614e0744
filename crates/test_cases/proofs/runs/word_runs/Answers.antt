-- The runs compute once the digits of numbers do.
use Rattle.std.proofs.Common.{refl}
use Rattle.std.specs.Fmt.{digits}
use Rattle.test_cases.proofs.runs.word_runs.Goals as goal

pub returns-clause-words : goal.returns-clause-words
unfolding digits
returns-clause-words c = refl

pub returns-clause-input : goal.returns-clause-input
unfolding digits
returns-clause-input c = refl

pub returns-clause-trigger : goal.returns-clause-trigger
unfolding digits
returns-clause-trigger c = refl

pub returns-clause-modes : goal.returns-clause-modes
unfolding digits
returns-clause-modes c = refl
