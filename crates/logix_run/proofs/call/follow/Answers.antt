use Rattle.logix_run.proofs.Asking.{no_stations}
use Rattle.logix_run.proofs.call.follow.Goals as goal

pub returns-in_default-clause-asked : goal.returns-in_default-clause-asked
returns-in_default-clause-asked g c = λ count is ok. absurd (no_stations c.args.command count c.in_default.not-Stations is)
