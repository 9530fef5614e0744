use Rattle.lgx_num.proofs.Subscripts.{subscripts_stay_in_range}
use Rattle.lgx_num.proofs.laws.law_of_subscripts.Goals as goal

pub returns : goal.returns
returns c = subscripts_stay_in_range
