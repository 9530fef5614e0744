use Rattle.std.proofs.Common.{◌≡◌, ◌+◌, ◌*◌, drop}
use Rattle.lgx_rung.specs.Elements.{tree_of}
use Rattle.lgx_rung.specs.Sizes.{tree_size, list_size}
use Rattle.lgx_rung.specs.Tree.{leg_instructions, legs_of}
use Rattle.lgx_rung.proofs.Walks.{element_size}
use Rattle.lgx_check.specs.Known.{is_plain}
use Rattle.lgx_check.proofs.Known.{are_plain}
use Rattle.lgx_check.proofs.plain.+plain.Given as goal

abbrev pub invariant-is_plain-loop-element : goal.invariant-is_plain-loop-element
invariant-is_plain-loop-element l = is_plain (tree_of (drop l.element-index l.element-items)) ≡ is_plain l.rung

abbrev pub invariant-are_plain_legs-loop-leg : goal.invariant-are_plain_legs-loop-leg
invariant-are_plain_legs-loop-leg l = are_plain (leg_instructions (legs_of (drop l.leg-index l.leg-items))) ≡ are_plain (leg_instructions (legs_of l.legs))

abbrev pub decreases-is_plain : goal.decreases-is_plain
decreases-is_plain l = 2 * tree_size l.rung.now

abbrev pub decreases-is_plain_element : goal.decreases-is_plain_element
decreases-is_plain_element l = 2 * element_size l.element.now

abbrev pub decreases-are_plain_legs : goal.decreases-are_plain_legs
decreases-are_plain_legs l = 2 * list_size l.legs.now + 1
