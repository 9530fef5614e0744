-- By cases on the action.
use Rattle.spec_lanes.proofs.Holding.{holds_words_and_modes}
use Rattle.spec_lanes.proofs.laws.words_and_modes_are_held.Goals as goal

pub returns : goal.returns
returns c = holds_words_and_modes
