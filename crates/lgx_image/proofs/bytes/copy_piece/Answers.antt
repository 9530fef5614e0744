use Rattle.std.proofs.Common.{arith}
use Rattle.lgx_image.proofs.Pieces.{copied_piece}
use Rattle.lgx_image.proofs.bytes.copy_piece.Goals as goal

pub returns-clause-after : goal.returns-clause-after
returns-clause-after c =
    let by = c.copy_within.ensures.by_index in
    copied_piece c.args.bytes.now c.copy_within.new.self c.args.source c.args.target c.args.size _ (omega arith) c.copy_within.ensures.len c.requires.target by.0 by.1 by.2
