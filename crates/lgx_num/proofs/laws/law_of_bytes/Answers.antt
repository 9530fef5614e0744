use Rattle.lgx_num.proofs.Numbers.{number_of_its_bytes, bytes_of_their_number}
use Rattle.lgx_num.proofs.laws.law_of_bytes.Goals as goal

pub returns : goal.returns
returns c = record { number = number_of_its_bytes; bytes = bytes_of_their_number }
