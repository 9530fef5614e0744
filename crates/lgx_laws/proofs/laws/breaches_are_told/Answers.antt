use Rattle.lgx_laws.proofs.Breaching.{none_is_kept, some_is_breach}
use Rattle.lgx_laws.proofs.laws.breaches_are_told.Goals as goal

pub returns-clause-none : goal.returns-clause-none
returns-clause-none c r trace = none_is_kept r trace

pub returns-clause-some : goal.returns-clause-some
returns-clause-some c r trace b = some_is_breach r trace b
