use Rattle.lgx_math.proofs.Quotients.{remainder_is_left, remainder_is_less, remainder_has_the_sign}
use Rattle.lgx_math.proofs.laws.law_of_quotients.Goals as goal

pub returns : goal.returns
returns c = record { left = remainder_is_left; less = remainder_is_less; sign = remainder_has_the_sign }
