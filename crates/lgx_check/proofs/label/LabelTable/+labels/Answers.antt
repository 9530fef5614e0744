use Rattle.std.proofs.Common.{◌<◌, arith, ◌∙◌}
use Rattle.lgx_rung.specs.Sizes.{tree_size, list_size}
use Rattle.lgx_rung.proofs.Walks.{element_size}
use Rattle.lgx_rung.proofs.Walks.{element_of, leg_of}
use Rattle.lgx_check.proofs.Labels.{element_labels, element_place, leg_labels, leg_place}
use Rattle.lgx_check.proofs.label.LabelTable.+labels.Goals as goal

pub add_rung-add_element-requires : goal.add_rung-add_element-requires
add_rung-add_element-requires t c =
    let d = c.decreases in
    let falls : element_size c.element-item.result < tree_size c.args.rung.now =
    element_of c.elements-element-items.result.now c.loop-element.element-index c.element-item.result c.args.rung.now c.elements-element-items.ensures.elements c.loop-element-test.true c.element-item.is in
    (omega arith, tt)

pub add_rung-loop-element-preserved : goal.add_rung-loop-element-preserved
add_rung-loop-element-preserved t c = record {
  labels = element_labels c.elements-element-items.result.now c.loop-element.element-index c.element-item.result c.loop-element.next c.add_element.new.next c.loop-element.self c.add_element.new.self c.loop-element-test.true c.element-item.is c.in_ok-add_element.ensures.labels c.in_ok-add_element.ensures.next ∙ c.loop-element.invariant.labels;
  next = element_place c.elements-element-items.result.now c.loop-element.element-index c.element-item.result c.loop-element.next c.add_element.new.next c.loop-element-test.true c.element-item.is c.in_ok-add_element.ensures.next ∙ c.loop-element.invariant.next;
}

pub add_legs-add_rung-requires : goal.add_legs-add_rung-requires
add_legs-add_rung-requires t c =
    let d = c.decreases in
    let falls : tree_size c.leg-item.result < list_size c.args.legs.now =
    leg_of c.as_slice-leg-items.result.now c.args.legs.now c.loop-leg.leg-index c.leg-item.result c.as_slice-leg-items.ensures.legs c.loop-leg-test.true c.leg-item.is in
    (omega arith, tt)

pub add_legs-loop-leg-preserved : goal.add_legs-loop-leg-preserved
add_legs-loop-leg-preserved t c = record {
  labels = leg_labels c.as_slice-leg-items.result.now c.loop-leg.leg-index c.leg-item.result c.loop-leg.next c.add_rung.new.next c.loop-leg.self c.add_rung.new.self c.loop-leg-test.true c.leg-item.is c.in_ok-add_rung.ensures.labels c.in_ok-add_rung.ensures.next ∙ c.loop-leg.invariant.labels;
  next = leg_place c.as_slice-leg-items.result.now c.loop-leg.leg-index c.leg-item.result c.loop-leg.next c.add_rung.new.next c.loop-leg-test.true c.leg-item.is c.in_ok-add_rung.ensures.next ∙ c.loop-leg.invariant.next;
}
