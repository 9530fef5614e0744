use Rattle.spec_language.proofs.Outlines.{proved_outline}
use Rattle.spec_language.proofs.language_laws.checking_keeps_outline.Goals as goal

pub returns : goal.returns
returns c = proved_outline
