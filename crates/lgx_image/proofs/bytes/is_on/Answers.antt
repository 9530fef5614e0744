use Rattle.lgx_image.proofs.Masks.{on-masked}
use Rattle.lgx_image.proofs.bytes.is_on.Goals as goal

pub returns : goal.returns
returns c = on-masked c.args.bytes.now c.args.bit c.requires.bit
