-- Line by line.
use Rattle.spec_text.proofs.WithinLimits.{journals_are_within}
use Rattle.spec_text.proofs.journal_laws.journals_are_within_limits.Goals as goal

pub returns : goal.returns
returns c = journals_are_within
