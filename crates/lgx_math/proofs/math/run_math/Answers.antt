use Rattle.std.proofs.Common.{length}
use Rattle.lgx_math.proofs.math.run_math.Goals as goal

pub run_math_of-requires-clause-lies : goal.run_math_of-requires-clause-lies
run_math_of-requires-clause-lies c = c.destination-place.ensures.lies (length c.args.image.now.bytes) c.requires.lie
