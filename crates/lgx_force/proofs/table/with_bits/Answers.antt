-- The bits of the code are those of the definition.
use Rattle.lgx_force.proofs.Words.{bits-masked}
use Rattle.lgx_force.proofs.table.with_bits.Goals as goal

pub returns : goal.returns
returns c = bits-masked c.args.mask c.args.held c.args.value c.ranges.mask
