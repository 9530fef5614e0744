use Rattle.lgx_fault.proofs.Keeps.{holds_the_last}
use Rattle.lgx_fault.proofs.laws.law_of_notes.Goals as goal

pub returns : goal.returns
returns c = holds_the_last
