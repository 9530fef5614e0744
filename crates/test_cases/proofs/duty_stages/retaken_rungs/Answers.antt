-- What is counted is computed.
use Rattle.std.proofs.Common.{arith}
use Rattle.test_cases.proofs.duty_stages.retaken_rungs.Goals as goal

pub returns-clause-accepted : goal.returns-clause-accepted
returns-clause-accepted c = (record { rung = 0; taken = omega arith; takes = omega arith }, λ j l a. absurd (omega arith))

pub returns-clause-forgotten : goal.returns-clause-forgotten
returns-clause-forgotten c = λ h. h 0 (record { rung = 0; taken = omega arith; takes = omega arith })

pub returns-clause-second : goal.returns-clause-second
returns-clause-second c = λ h. h 1 (record { rung = 1; taken = omega arith; takes = omega arith })
