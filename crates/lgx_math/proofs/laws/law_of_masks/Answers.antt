use Rattle.lgx_math.proofs.Masks.{masked_bits_are_moved, other_bits_stay}
use Rattle.lgx_math.proofs.laws.law_of_masks.Goals as goal

pub returns : goal.returns
returns c = record { moved = masked_bits_are_moved; others = other_bits_stay }
