use Rattle.std.proofs.Common.{sym}
use Rattle.lgx_image.proofs.Marks.{word_of-is}
use Rattle.lgx_image.proofs.hits.word_of.Goals as goal

pub returns : goal.returns
returns c = sym (word_of-is c.args.byte)
