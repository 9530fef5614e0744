-- Each event keeps what is known of a state.
use Rattle.spec_reach.proofs.Bounds.{runs_are_bounded}
use Rattle.spec_reach.proofs.First.{open_is_first}
use Rattle.spec_reach.proofs.Images.{images_keep_length}
use Rattle.spec_reach.proofs.Reached.{scans_agree}
use Rattle.spec_reach.proofs.Sizes.{runs_keep_sizes}
use Rattle.spec_reach.proofs.laws.reached_states_are_sound.Goals as goal

pub returns-clause-sizes : goal.returns-clause-sizes
returns-clause-sizes c = runs_keep_sizes

pub returns-clause-scans : goal.returns-clause-scans
returns-clause-scans c = scans_agree

pub returns-clause-first : goal.returns-clause-first
returns-clause-first c = open_is_first

pub returns-clause-bounds : goal.returns-clause-bounds
returns-clause-bounds c = runs_are_bounded

pub returns-clause-images : goal.returns-clause-images
returns-clause-images c = images_keep_length
