use Rattle.std.proofs.Common.{arith}
use Rattle.lgx_image.proofs.image.Image.store_dint.Goals as goal

pub store_word-requires-clause-aligned : goal.store_word-requires-clause-aligned
store_word-requires-clause-aligned c = omega (arith, c.if-byte-eq0.true)
