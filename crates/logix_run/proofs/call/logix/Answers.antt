use Rattle.std.proofs.Common.{◌≡◌, ap, ◌∙◌}
use Rattle.logix_run.specs.Words.{stations_of}
use Rattle.logix_run.proofs.call.logix.Goals as goal

pub returns-clause-asked : goal.returns-clause-asked
returns-clause-asked g c = λ count is ok. c.follow.ensures.asked count (ap stations_of c.command_of.ensures.said ∙ is) ok
