use Rattle.spec_language.proofs.OperandBounds.{checked_lies}
use Rattle.spec_language.proofs.language_laws.checked_is_in_bounds.Goals as goal

pub returns : goal.returns
returns c = checked_lies
