-- Of every instruction.
use Rattle.spec_readers.proofs.ReadRows.{rows_read_readers}
use Rattle.spec_readers.proofs.laws.rows_read_readers.Goals as goal

pub returns : goal.returns
returns c = rows_read_readers
