use Rattle.spec_language.proofs.SizesSettle.{faultless, the_only}
use Rattle.spec_language.proofs.language_laws.sizes_are_settled.Goals as goal

pub returns-clause-sound : goal.returns-clause-sound
returns-clause-sound c = faultless

pub returns-clause-only : goal.returns-clause-only
returns-clause-only c = the_only
