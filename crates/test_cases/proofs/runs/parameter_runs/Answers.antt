-- The reports compute once the digits of numbers do.
use Rattle.std.proofs.Common.{refl}
use Rattle.std.specs.Fmt.{digits}
use Rattle.test_cases.proofs.runs.parameter_runs.Goals as goal

pub returns-clause-there_and_back : goal.returns-clause-there_and_back
unfolding digits
returns-clause-there_and_back c = refl

pub returns-clause-most : goal.returns-clause-most
unfolding digits
returns-clause-most c = refl

pub returns-clause-left_over : goal.returns-clause-left_over
unfolding digits
returns-clause-left_over c = refl

pub returns-clause-nothing_back : goal.returns-clause-nothing_back
unfolding digits
returns-clause-nothing_back c = refl

pub returns-clause-too_few_inputs : goal.returns-clause-too_few_inputs
unfolding digits
returns-clause-too_few_inputs c = refl

pub returns-clause-too_few_returned : goal.returns-clause-too_few_returned
unfolding digits
returns-clause-too_few_returned c = refl

pub returns-clause-subscript_first : goal.returns-clause-subscript_first
unfolding digits
returns-clause-subscript_first c = refl

pub returns-clause-place_at_call : goal.returns-clause-place_at_call
unfolding digits
returns-clause-place_at_call c = refl

pub returns-clause-read_first : goal.returns-clause-read_first
unfolding digits
returns-clause-read_first c = refl

pub returns-clause-recursion : goal.returns-clause-recursion
unfolding digits
returns-clause-recursion c = refl
