-- Each stage computes.
use Rattle.std.proofs.Common.{refl}
use Rattle.test_cases.proofs.duty_stages.duties_of_stages_are_kept.Goals as goal

pub returns-clause-comes_to_run : goal.returns-clause-comes_to_run
returns-clause-comes_to_run c = (refl, record { released = refl; fault = refl; up = refl }, record { mode = refl; down = refl }, record { image = refl; progress = refl; firsts = refl; books = refl; forces = refl })

pub returns-clause-triggers : goal.returns-clause-triggers
returns-clause-triggers c = (refl, record { released = refl; fault = refl; up = refl }, record { mode = refl; down = refl }, tt)

pub returns-clause-overlaps : goal.returns-clause-overlaps
returns-clause-overlaps c = (refl, record { released = refl; fault = refl; up = refl }, record { mode = refl; down = refl }, tt)

pub returns-clause-in_program : goal.returns-clause-in_program
returns-clause-in_program c = (refl, record { released = refl; fault = refl; up = refl }, record { mode = refl; down = refl }, tt)

pub returns-clause-of_inhibited : goal.returns-clause-of_inhibited
returns-clause-of_inhibited c = (refl, record { released = refl; fault = refl; up = refl }, record { mode = refl; down = refl }, tt)

pub returns-clause-barks : goal.returns-clause-barks
returns-clause-barks c = (tt, tt, record { mode = refl; down = refl }, tt)
