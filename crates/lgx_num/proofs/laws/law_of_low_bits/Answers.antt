use Rattle.lgx_num.proofs.Numbers.{kept_is_in_range, kept_has_the_low_bits, value_in_range_is_kept}
use Rattle.lgx_num.proofs.laws.law_of_low_bits.Goals as goal

pub returns : goal.returns
returns c = record { range = kept_is_in_range; bits = kept_has_the_low_bits; kept = value_in_range_is_kept }
