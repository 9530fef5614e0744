-- Each step of a synchronous copy copies an element, and nothing else changes a byte.
use Rattle.spec_copies.proofs.WholeCopies.{runs_copy_whole}
use Rattle.spec_copies.proofs.laws.copies_are_whole.Goals as goal

pub returns : goal.returns
returns c = runs_copy_whole
