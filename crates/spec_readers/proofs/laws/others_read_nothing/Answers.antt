-- Of every instruction of a valid project.
use Rattle.spec_readers.proofs.SiteReads.{others_read_nothing}
use Rattle.spec_readers.proofs.laws.others_read_nothing.Goals as goal

pub returns : goal.returns
returns c = others_read_nothing
