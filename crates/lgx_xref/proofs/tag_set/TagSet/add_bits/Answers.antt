-- One bit more, and all bits.
use Rattle.std.proofs.Common.{◌++◌, take}
use Rattle.lgx_xref.proofs.Tagged.{bit_more, bits_all}
use Rattle.lgx_xref.proofs.tag_set.TagSet.add_bits.Goals as goal

pub loop-bit-preserved : goal.loop-bit-preserved
loop-bit-preserved c before all =
    bit_more c.args.spans.now before c.args.bits.now _ c.loop-bit.bit-index c.loop-bit-test.true
    (c.in_ok-add_bit.ensures (before ++ take c.loop-bit.bit-index c.args.bits.now) (c.loop-bit.invariant before all))

pub returns : goal.returns
returns c before all =
    bits_all c.args.spans.now before c.args.bits.now c.loop-bit.self c.loop-bit.bit-index c.loop-bit-test.false (c.loop-bit.invariant before all)
