use Rattle.lgx_history.proofs.history.History.take_in.Given as goal

-- what is ahead are the journal's events
abbrev pub ghosts-go_on_to : goal.ghosts-go_on_to
ghosts-go_on_to a = record { events = a.journal.now.events }
