use Rattle.lgx_record.proofs.FewLines.{events_have_few_lines}
use Rattle.lgx_record.proofs.laws.law_of_lines.Goals as goal

pub returns : goal.returns
returns c = events_have_few_lines
