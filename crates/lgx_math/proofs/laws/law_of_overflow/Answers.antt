use Rattle.lgx_math.proofs.Quotients.{stored_is_exact}
use Rattle.lgx_math.proofs.laws.law_of_overflow.Goals as goal

pub returns : goal.returns
returns c = stored_is_exact
