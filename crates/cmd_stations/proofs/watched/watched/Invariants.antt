use Rattle.cmd_stations.proofs.watched.watched.Given as goal

abbrev pub ghosts-watched_as : goal.ghosts-watched_as
ghosts-watched_as g a = record { project = a.project; journal = a.journal.now.events }
