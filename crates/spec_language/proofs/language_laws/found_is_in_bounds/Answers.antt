use Rattle.spec_language.proofs.FoundBounds.{found_lies, fixed_lies}
use Rattle.spec_language.proofs.language_laws.found_is_in_bounds.Goals as goal

pub returns-clause-any : goal.returns-clause-any
returns-clause-any c = found_lies

pub returns-clause-fixed : goal.returns-clause-fixed
returns-clause-fixed c = fixed_lies
