-- A connection's words are the bytes of a tag.
use Rattle.spec_reach.proofs.Words.{slots_are_in_image}
use Rattle.spec_reach.proofs.laws.words_lie_in_image.Goals as goal

pub returns : goal.returns
returns c = slots_are_in_image
