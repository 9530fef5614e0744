use Rattle.std.proofs.Common.{sym}
use Rattle.lgx_image.proofs.Marks.{grain_of-is}
use Rattle.lgx_image.proofs.grain.grain_of.Goals as goal

pub returns : goal.returns
returns c = sym (grain_of-is c.args.byte)
