use Rattle.std.proofs.Common.{◌<◌, arith}
use Rattle.lgx_rung.specs.Sizes.{tree_size, list_size}
use Rattle.lgx_rung.proofs.Walks.{element_of, element_size, leg_of}
use Rattle.lgx_check.proofs.plain.+plain.Goals as goal

pub is_plain-is_plain_element-requires : goal.is_plain-is_plain_element-requires
is_plain-is_plain_element-requires t c =
    let d = c.decreases in
    let falls : element_size c.element-item.result < tree_size c.args.rung.now =
    element_of c.elements-element-items.result.now c.loop-element.element-index c.element-item.result c.args.rung.now c.elements-element-items.ensures.elements c.loop-element-test.true c.element-item.is in
    (omega arith, tt)

pub are_plain_legs-is_plain-requires : goal.are_plain_legs-is_plain-requires
are_plain_legs-is_plain-requires t c =
    let d = c.decreases in
    let falls : tree_size c.leg-item.result < list_size c.args.legs.now =
    leg_of c.as_slice-leg-items.result.now c.args.legs.now c.loop-leg.leg-index c.leg-item.result c.as_slice-leg-items.ensures.legs c.loop-leg-test.true c.leg-item.is in
    (omega arith, tt)
