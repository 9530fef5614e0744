use Rattle.lgx_watch.proofs.Pushes.{keeps_the_first}
use Rattle.lgx_watch.proofs.laws.law_of_pushes.Goals as goal

pub returns : goal.returns
returns c = keeps_the_first
