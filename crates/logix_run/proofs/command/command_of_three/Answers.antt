use Rattle.std.proofs.Common.{refl, ap}
use Rattle.logix_run.specs.Words.{counted}
use Rattle.logix_run.specs.Words.Command.{Stations}
use Rattle.logix_run.proofs.Rows.{here, past}
use Rattle.logix_run.proofs.command.command_of_three.Goals as goal

pub returns-in-link : goal.returns-in-link
returns-in-link c = record { said = here _ _ _ _ _ c.in-link.is refl; few = tt }

pub returns-in-Some : goal.returns-in-Some
returns-in-Some c = record { said = past _ _ _ _ _ c.in-stations.not-link (here _ _ _ _ _ c.in-stations.is (ap (counted (Stations c.args.first.now c.args.second.now)) c.in-Some.ensures.count)); few = c.in-Some.ensures.few }

pub returns-in-None : goal.returns-in-None
returns-in-None c = record { said = past _ _ _ _ _ c.in-stations.not-link (here _ _ _ _ _ c.in-stations.is (ap (counted (Stations c.args.first.now c.args.second.now)) c.in-None.ensures.count)); few = tt }

pub returns-in_default : goal.returns-in_default
returns-in_default c = record { said = past _ _ _ _ _ c.in_default.not-link (past _ _ _ _ _ c.in_default.not-stations refl); few = tt }
