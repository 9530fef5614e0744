-- Of every run.
use Rattle.spec_laws.proofs.Lawful.{runs_are_lawful}
use Rattle.spec_laws.proofs.laws.runs_are_lawful.Goals as goal

pub returns : goal.returns
returns c = runs_are_lawful
