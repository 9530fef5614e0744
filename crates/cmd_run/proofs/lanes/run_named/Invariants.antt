use Rattle.std.proofs.Common.{Option, Some, None}
use Rattle.atomic_table.specs.Seated.{TableId}
use Rattle.lgx_history.specs.Histories.{HistoryView, no_history}
use Rattle.cmd_run.proofs.lanes.run_named.Given as goal

-- the history that a recorder has
abbrev pub its_history : Option HistoryView → TableId
its_history None = no_history
its_history (Some h) = h.name

abbrev pub ghosts-run_shared-I-Input : goal.ghosts-run_shared-I-Input
ghosts-run_shared-I-Input g a = record { project = g.J.Input.project; script = g.J.Input.script; history = its_history a.recorder.history }

abbrev pub ghosts-run_shared-A-Ledger : goal.ghosts-run_shared-A-Ledger
ghosts-run_shared-A-Ledger g a = record { name = a.actions.name; parts = a.actions.parts }

abbrev pub ghosts-run_shared-S-Ledger : goal.ghosts-run_shared-S-Ledger
ghosts-run_shared-S-Ledger g a = record { name = a.steps.name; parts = a.steps.parts }

abbrev pub ghosts-run_shared-E-Ledger : goal.ghosts-run_shared-E-Ledger
ghosts-run_shared-E-Ledger g a = record { name = a.ends.name; parts = a.ends.parts }
