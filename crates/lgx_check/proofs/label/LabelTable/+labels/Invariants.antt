use Rattle.std.proofs.Common.{◌≡◌, ◌+◌, ◌*◌, ◌++◌, length, drop}
use Rattle.lgx_rung.specs.Elements.{tree_of}
use Rattle.lgx_rung.specs.Sizes.{tree_size, list_size}
use Rattle.lgx_rung.specs.Tree.{instructions, leg_instructions, legs_of}
use Rattle.lgx_rung.proofs.Walks.{element_size}
use Rattle.lgx_check.specs.Labels.{labels_from, place_after}
use Rattle.lgx_check.proofs.label.LabelTable.+labels.Given as goal

abbrev pub invariant-add_rung-loop-element : goal.invariant-add_rung-loop-element
invariant-add_rung-loop-element l = record {
  labels : l.self ++ labels_from l.next (instructions (tree_of (drop l.element-index l.element-items))) ≡ l.fn.self ++ labels_from l.fn.next (instructions l.rung);
  next : place_after (length (instructions (tree_of (drop l.element-index l.element-items)))) l.next ≡ place_after (length (instructions l.rung)) l.fn.next;
}

abbrev pub invariant-add_legs-loop-leg : goal.invariant-add_legs-loop-leg
invariant-add_legs-loop-leg l = record {
  labels : l.self ++ labels_from l.next (leg_instructions (legs_of (drop l.leg-index l.leg-items))) ≡ l.fn.self ++ labels_from l.fn.next (leg_instructions (legs_of l.legs));
  next : place_after (length (leg_instructions (legs_of (drop l.leg-index l.leg-items)))) l.next ≡ place_after (length (leg_instructions (legs_of l.legs))) l.fn.next;
}

abbrev pub decreases-add_rung : goal.decreases-add_rung
decreases-add_rung l = 2 * tree_size l.rung.now

abbrev pub decreases-add_element : goal.decreases-add_element
decreases-add_element l = 2 * element_size l.element.now

abbrev pub decreases-add_legs : goal.decreases-add_legs
decreases-add_legs l = 2 * list_size l.legs.now + 1
