use Rattle.lgx_audit.proofs.Breaching.{none_is_legal, some_is_breach}
use Rattle.lgx_audit.proofs.laws.breaches_are_told.Goals as goal

pub returns-clause-none : goal.returns-clause-none
returns-clause-none c table trace known = none_is_legal table trace known

pub returns-clause-some : goal.returns-clause-some
returns-clause-some c table trace b known = some_is_breach table trace known b
