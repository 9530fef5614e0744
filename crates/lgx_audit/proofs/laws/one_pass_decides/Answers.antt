use Rattle.lgx_audit.proofs.Decided.{turns_decided, ways_decided}
use Rattle.lgx_audit.proofs.laws.one_pass_decides.Goals as goal

pub returns-clause-between_steps : goal.returns-clause-between_steps
returns-clause-between_steps c table trace within = turns_decided table trace within

pub returns-clause-over_ticks : goal.returns-clause-over_ticks
returns-clause-over_ticks c table trace = ways_decided table trace
