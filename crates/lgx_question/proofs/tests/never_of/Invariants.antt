-- What is said is the tests so far and what the rest says.
use Rattle.std.proofs.Common.{length}
use Rattle.spec_text.specs.TextLines.{words}
use Rattle.lgx_question.specs.Reading.{seen}
use Rattle.lgx_question.proofs.ReadTests.{GoesOn}
use Rattle.lgx_question.proofs.tests.never_of.Given as goal

abbrev pub invariant-loop-test : goal.invariant-loop-test
invariant-loop-test l = GoesOn l.names (words l.text) (seen l.tests.items l.missing) (words l.rest)

abbrev pub decreases-loop-test : goal.decreases-loop-test
decreases-loop-test l = length (words l.rest)
