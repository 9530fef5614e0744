use Rattle.lgx_answer.specs.Answered.{call_with}
use Rattle.cmd_stations.proofs.Leads.{watched_written}
use Rattle.cmd_stations.proofs.command.watch_and_write.Goals as goal

pub returns-in-Ok-clause-follows : goal.returns-in-Ok-clause-follows
returns-in-Ok-clause-follows g c =
    watched_written c.args.project c.args.journal.events c.args.stations _ (call_with (g.F.Files.told c.args.files.now) _ _ _ _) c.in-Ok.ensures.text c.write.ensures
