use Rattle.lgx_history.specs.Histories.{no_history}
use Rattle.cmd_run.proofs.lanes.run_script.Given as goal

abbrev pub ghosts-run_named : goal.ghosts-run_named
ghosts-run_named g a = record { project = a.project; script = a.script; history = no_history }
