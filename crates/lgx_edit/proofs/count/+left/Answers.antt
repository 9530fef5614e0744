-- One element, and one leg, are taken away.
use Rattle.std.proofs.Common.{◌<◌, arith, ◌∙◌}
use Rattle.lgx_rung.specs.Sizes.{tree_size, list_size}
use Rattle.lgx_rung.proofs.Walks.{element_of, element_size, leg_of}
use Rattle.lgx_edit.proofs.Counts.{element_left, leg_left}
use Rattle.lgx_edit.proofs.count.+left.Goals as goal

pub left_by_rung-left_by_element-left-requires : goal.left_by_rung-left_by_element-left-requires
left_by_rung-left_by_element-left-requires t c =
    let d = c.decreases in
    let falls : element_size c.element-item.result < tree_size c.args.rung.now =
    element_of c.elements-element-items.result.now c.loop-element.element-index c.element-item.result c.args.rung.now c.elements-element-items.ensures.elements c.loop-element-test.true c.element-item.is in
    (omega arith, tt)

pub left_by_rung-loop-element-preserved : goal.left_by_rung-loop-element-preserved
left_by_rung-loop-element-preserved t c =
    element_left c.elements-element-items.result.now c.loop-element.element-index c.element-item.result c.loop-element.left c.left_by_element-left.result c.loop-element-test.true c.element-item.is c.left_by_element-left.ensures
    ∙ c.loop-element.invariant

pub left_by_legs-left_by_rung-left-requires : goal.left_by_legs-left_by_rung-left-requires
left_by_legs-left_by_rung-left-requires t c =
    let d = c.decreases in
    let falls : tree_size c.leg-item.result < list_size c.args.legs.now =
    leg_of c.as_slice-leg-items.result.now c.args.legs.now c.loop-leg.leg-index c.leg-item.result c.as_slice-leg-items.ensures.legs c.loop-leg-test.true c.leg-item.is in
    (omega arith, tt)

pub left_by_legs-loop-leg-preserved : goal.left_by_legs-loop-leg-preserved
left_by_legs-loop-leg-preserved t c =
    leg_left c.as_slice-leg-items.result.now c.loop-leg.leg-index c.leg-item.result c.loop-leg.left c.left_by_rung-left.result c.loop-leg-test.true c.leg-item.is c.left_by_rung-left.ensures
    ∙ c.loop-leg.invariant
