-- What is left after all elements is what is left now after the others.
use Rattle.std.proofs.Common.{◌≡◌, ◌+◌, ◌-◌, ◌*◌, length, drop}
use Rattle.lgx_rung.specs.Elements.{tree_of}
use Rattle.lgx_rung.specs.Sizes.{tree_size, list_size}
use Rattle.lgx_rung.specs.Tree.{instructions, leg_instructions, legs_of}
use Rattle.lgx_rung.proofs.Walks.{element_size}
use Rattle.lgx_edit.proofs.count.+left.Given as goal

abbrev pub invariant-left_by_rung-loop-element : goal.invariant-left_by_rung-loop-element
invariant-left_by_rung-loop-element l =
    l.left - length (instructions (tree_of (drop l.element-index l.element-items))) ≡ l.fn.left - length (instructions l.rung)

abbrev pub invariant-left_by_legs-loop-leg : goal.invariant-left_by_legs-loop-leg
invariant-left_by_legs-loop-leg l =
    l.left - length (leg_instructions (legs_of (drop l.leg-index l.leg-items))) ≡ l.fn.left - length (leg_instructions (legs_of l.legs))

abbrev pub decreases-left_by_rung : goal.decreases-left_by_rung
decreases-left_by_rung l = 2 * tree_size l.rung.now

abbrev pub decreases-left_by_element : goal.decreases-left_by_element
decreases-left_by_element l = 2 * element_size l.element.now

abbrev pub decreases-left_by_legs : goal.decreases-left_by_legs
decreases-left_by_legs l = 2 * list_size l.legs.now + 1
