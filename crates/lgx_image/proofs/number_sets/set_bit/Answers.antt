use Rattle.lgx_image.proofs.Words.{bit_set, bit_set_other}
use Rattle.lgx_image.proofs.number_sets.set_bit.Goals as goal

pub returns-clause-set : goal.returns-clause-set
returns-clause-set c = bit_set c.args.words.now c.args.bit c.requires

pub returns-clause-others : goal.returns-clause-others
returns-clause-others c = λ other apart. bit_set_other c.args.words.now c.args.bit other c.requires apart
