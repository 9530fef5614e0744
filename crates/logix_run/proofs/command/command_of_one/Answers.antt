use Rattle.std.proofs.Common.{refl, ap}
use Rattle.logix_run.specs.Words.{counted}
use Rattle.logix_run.specs.Words.Command.{Gen}
use Rattle.logix_run.proofs.Rows.{here, past}
use Rattle.logix_run.proofs.command.command_of_one.Goals as goal

pub returns-in-check : goal.returns-in-check
returns-in-check c = record { said = here _ _ _ _ _ c.in-check.is refl; few = tt }

pub returns-in-text : goal.returns-in-text
returns-in-text c = record { said = past _ _ _ _ _ c.in-text.not-check (here _ _ _ _ _ c.in-text.is refl); few = tt }

pub returns-in-migrate : goal.returns-in-migrate
returns-in-migrate c = record { said = past _ _ _ _ _ c.in-migrate.not-check (past _ _ _ _ _ c.in-migrate.not-text (here _ _ _ _ _ c.in-migrate.is refl)); few = tt }

pub returns-in-xref : goal.returns-in-xref
returns-in-xref c = record { said = past _ _ _ _ _ c.in-xref.not-check (past _ _ _ _ _ c.in-xref.not-text (past _ _ _ _ _ c.in-xref.not-migrate (here _ _ _ _ _ c.in-xref.is refl))); few = tt }

pub returns-in-Some : goal.returns-in-Some
returns-in-Some c = record { said = past _ _ _ _ _ c.in-gen.not-check (past _ _ _ _ _ c.in-gen.not-text (past _ _ _ _ _ c.in-gen.not-migrate (past _ _ _ _ _ c.in-gen.not-xref (here _ _ _ _ _ c.in-gen.is (ap (counted Gen) c.in-Some.ensures))))); few = tt }

pub returns-in-None : goal.returns-in-None
returns-in-None c = record { said = past _ _ _ _ _ c.in-gen.not-check (past _ _ _ _ _ c.in-gen.not-text (past _ _ _ _ _ c.in-gen.not-migrate (past _ _ _ _ _ c.in-gen.not-xref (here _ _ _ _ _ c.in-gen.is (ap (counted Gen) c.in-None.ensures))))); few = tt }

pub returns-in_default : goal.returns-in_default
returns-in_default c = record { said = past _ _ _ _ _ c.in_default.not-check (past _ _ _ _ _ c.in_default.not-text (past _ _ _ _ _ c.in_default.not-migrate (past _ _ _ _ _ c.in_default.not-xref (past _ _ _ _ _ c.in_default.not-gen refl)))); few = tt }
