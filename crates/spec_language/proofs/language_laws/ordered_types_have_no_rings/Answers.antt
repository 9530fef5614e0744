use Rattle.spec_language.proofs.Reaching.{no_rings_in_order}
use Rattle.spec_language.proofs.language_laws.ordered_types_have_no_rings.Goals as goal

pub returns : goal.returns
returns c = no_rings_in_order
