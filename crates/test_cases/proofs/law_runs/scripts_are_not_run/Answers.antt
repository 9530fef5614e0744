-- The lane's list has one action, and its tick is 2.
use Rattle.std.proofs.Common.{ap, length, arith}
use Rattle.test_cases.proofs.law_runs.scripts_are_not_run.Goals as goal

pub returns-clause-twice : goal.returns-clause-twice
returns-clause-twice c = λ h. let e = ap length h.lanes.0.order in search (arith, e)

pub returns-clause-early : goal.returns-clause-early
returns-clause-early c = λ h. search (arith, h.lanes.0.due.0)
