-- Line by line.
use Rattle.spec_text.proofs.KeptScripts.{scripts_are_kept}
use Rattle.spec_text.proofs.journal_laws.scripts_are_kept.Goals as goal

pub returns : goal.returns
returns c = scripts_are_kept
