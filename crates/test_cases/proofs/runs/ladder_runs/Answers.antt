-- The runs compute once the digits of numbers do.
use Rattle.std.proofs.Common.{refl}
use Rattle.std.specs.Fmt.{digits}
use Rattle.test_cases.proofs.runs.ladder_runs.Goals as goal

pub returns-clause-empty_program : goal.returns-clause-empty_program
unfolding digits
returns-clause-empty_program c = refl

pub returns-clause-one_rung : goal.returns-clause-one_rung
unfolding digits
returns-clause-one_rung c = refl

pub returns-clause-empty_leg : goal.returns-clause-empty_leg
unfolding digits
returns-clause-empty_leg c = refl

pub returns-clause-legs : goal.returns-clause-legs
unfolding digits
returns-clause-legs c = refl

pub returns-clause-false_conditions : goal.returns-clause-false_conditions
unfolding digits
returns-clause-false_conditions c = refl

pub returns-clause-prescan : goal.returns-clause-prescan
unfolding digits
returns-clause-prescan c = refl

pub returns-clause-first_scan : goal.returns-clause-first_scan
unfolding digits
returns-clause-first_scan c = refl

pub returns-clause-one_shots : goal.returns-clause-one_shots
unfolding digits
returns-clause-one_shots c = refl

pub returns-clause-one_bit : goal.returns-clause-one_bit
unfolding digits
returns-clause-one_bit c = refl
