use Rattle.std.proofs.Common.{w32, of_z}
use Rattle.lgx_math.proofs.Masks.{masked, word}
use Rattle.lgx_math.proofs.results.masked_move.Goals as goal

pub returns : goal.returns
returns c =
    masked (of_z w32 c.args.source) (of_z w32 c.args.mask) (of_z w32 c.args.dest)
    (word c.args.source c.ranges.source) (word c.args.mask c.ranges.mask) (word c.args.dest c.ranges.dest)
