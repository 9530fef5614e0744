use Rattle.std.proofs.Common.{length, arith}
use Rattle.spec_scan.proofs.CopyBounds.{source_fits}
use Rattle.lgx_copy.proofs.element.next.Goals as goal

pub advance-requires-clause-source : goal.advance-requires-clause-source
advance-requires-clause-source c =
    source_fits c.args.copying.now.fill c.args.copying.now (length c.args.image.now.bytes) c.requires.left (omega (arith, c.len.ensures.value, c.len.ensures.room)) c.requires.lies.source
