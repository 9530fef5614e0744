use Rattle.lgx_num.proofs.Names.{same_in_lower_case}
use Rattle.lgx_num.proofs.laws.law_of_names.Goals as goal

pub returns : goal.returns
returns c = same_in_lower_case
