use Rattle.std.proofs.Common.{refl}
use Rattle.logix_run.proofs.Rows.{here, past}
use Rattle.logix_run.proofs.command.command_of_two.Goals as goal

pub returns-in-replay : goal.returns-in-replay
returns-in-replay c = record { said = here _ _ _ _ _ c.in-replay.is refl; few = tt }

pub returns-in-trace : goal.returns-in-trace
returns-in-trace c = record { said = past _ _ _ _ _ c.in-trace.not-replay (here _ _ _ _ _ c.in-trace.is refl); few = tt }

pub returns-in-audit : goal.returns-in-audit
returns-in-audit c = record { said = past _ _ _ _ _ c.in-audit.not-replay (past _ _ _ _ _ c.in-audit.not-trace (here _ _ _ _ _ c.in-audit.is refl)); few = tt }

pub returns-in-run : goal.returns-in-run
returns-in-run c = record { said = past _ _ _ _ _ c.in-run.not-replay (past _ _ _ _ _ c.in-run.not-trace (past _ _ _ _ _ c.in-run.not-audit (here _ _ _ _ _ c.in-run.is refl))); few = tt }

pub returns-in_default : goal.returns-in_default
returns-in_default c = record { said = past _ _ _ _ _ c.in_default.not-replay (past _ _ _ _ _ c.in_default.not-trace (past _ _ _ _ _ c.in_default.not-audit (past _ _ _ _ _ c.in_default.not-run refl))); few = tt }
