use Rattle.spec_language.proofs.FormsRead.{reads_forms}
use Rattle.spec_language.proofs.language_laws.forms_are_read.Goals as goal

pub returns : goal.returns
returns c = reads_forms
