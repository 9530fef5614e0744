use Rattle.lgx_record.proofs.Faults.{answers_tell_faults}
use Rattle.lgx_record.proofs.laws.law_of_faults.Goals as goal

pub returns : goal.returns
returns c = answers_tell_faults
