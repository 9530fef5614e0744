-- What differs is computed.
use Rattle.std.proofs.Common.{◌≡◌, ap}
use Rattle.spec_machine.specs.State.{State}
use Rattle.test_cases.proofs.law_runs.doctored_runs_break_laws.Goals as goal

pub returns-clause-cause : goal.returns-clause-cause
returns-clause-cause c = λ h. cc (h.0)

pub returns-clause-changed : goal.returns-clause-changed
returns-clause-changed c = λ h. (let e : 1 ≡ 0 = ap (λ (s : State). s.tick) h.1 in cc e)
