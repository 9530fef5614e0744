-- Each action that is held or refused carries its first cause.
use Rattle.spec_legal.proofs.Refused.{refusals_change_nothing}
use Rattle.spec_legal.proofs.laws.refusals_change_nothing.Goals as goal

pub returns : goal.returns
returns c = refusals_change_nothing
