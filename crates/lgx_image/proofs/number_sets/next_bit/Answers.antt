use Rattle.std.proofs.Common.{◌/◌, arith}
use Rattle.lgx_image.proofs.Words.{first_word_some, first_word_none}
use Rattle.lgx_image.proofs.number_sets.next_bit.Goals as goal

pub returns-in-Some : goal.returns-in-Some
returns-in-Some c = first_word_some c.args.words.now c.args.from c.in-Some.bit (c.type_inv.words (c.args.from / 64)).fits c.in-Some.ensures

pub loop-at-init : goal.loop-at-init
loop-at-init c = record {
  later = omega arith;
  before = first_word_none c.args.words.now c.args.from (λ i. c.in_default.ensures i);
}
