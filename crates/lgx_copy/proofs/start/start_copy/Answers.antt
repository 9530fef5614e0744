use Rattle.std.proofs.Common.{arith}
use Rattle.std.proofs.lemmas.Grind.{common_steps}
use Rattle.spec_scan.proofs.CopyBounds.{copy_lies}
use Rattle.lgx_copy.proofs.start.start_copy.Goals as goal

pub returns-clause-lies : goal.returns-clause-lies
returns-clause-lies c = λ blocks.
    copy_lies c.args.op c.args.args.now c.args.image.now.bytes _ (grind (arith, common_steps)) (omega (arith, c.len.ensures.value, c.len.ensures.room)) c.requires blocks
