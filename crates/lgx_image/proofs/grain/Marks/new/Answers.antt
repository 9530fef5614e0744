use Rattle.lgx_image.proofs.Words.{flags_of-none}
use Rattle.lgx_image.proofs.grain.Marks.new.Goals as goal

pub returns : goal.returns
returns c = flags_of-none 4096
