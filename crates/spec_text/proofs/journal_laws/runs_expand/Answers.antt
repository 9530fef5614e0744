-- Run by run.
use Rattle.spec_text.proofs.JoinedRuns.{runs_expand}
use Rattle.spec_text.proofs.journal_laws.runs_expand.Goals as goal

pub returns : goal.returns
returns c = runs_expand
