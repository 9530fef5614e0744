use Rattle.spec_valid.proofs.FoundAligned.{aligned_fixed}
use Rattle.spec_valid.proofs.aligned.fixed_is_aligned.Goals as goal

pub returns : goal.returns
returns c = aligned_fixed
