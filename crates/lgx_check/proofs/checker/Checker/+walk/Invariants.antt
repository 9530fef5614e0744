use Rattle.std.proofs.Common.{◌≡◌, ◌+◌, ◌*◌, false, length, drop}
use Rattle.lgx_rung.specs.Elements.{tree_of as source_tree}
use Rattle.lgx_rung.specs.Sizes.{tree_size, list_size}
use Rattle.lgx_rung.specs.Tree.{instructions, leg_instructions, legs_of}
use Rattle.lgx_rung.proofs.Walks.{element_size}
use Rattle.spec_language.specs.Checked.{checked_legs, checked_tree}
use Rattle.lgx_check.specs.Checkers.{check_of}
use Rattle.lgx_check.specs.Spots.{IsWithin, place_after, spot_at}
use Rattle.lgx_check.proofs.Walking.{after_legs, after_nodes, left_legs, left_tree}
use Rattle.lgx_check.proofs.checker.Checker.+walk.Given as goal

abbrev pub invariant-check_rung-loop-element : goal.invariant-check_rung-loop-element
invariant-check_rung-loop-element l = record {
  answer : after_nodes l.nodes.items (left_tree (check_of l.self) (spot_at l.first l.place) l.element-items l.element-index) ≡ checked_tree (check_of l.self) (spot_at l.leads l.fn.place) l.rung;
  place : place_after (length (instructions (source_tree (drop l.element-index l.element-items)))) l.place ≡ place_after (length (instructions l.rung)) l.fn.place;
  within : IsWithin l.place;
}

abbrev pub invariant-check_legs-loop-leg : goal.invariant-check_legs-loop-leg
invariant-check_legs-loop-leg l = record {
  answer : after_legs l.made.items (left_legs (check_of l.self) (spot_at false l.place) l.leg-items l.leg-index) ≡ checked_legs (check_of l.self) (spot_at false l.fn.place) (legs_of l.legs);
  place : place_after (length (leg_instructions (legs_of (drop l.leg-index l.leg-items)))) l.place ≡ place_after (length (leg_instructions (legs_of l.legs))) l.fn.place;
  within : IsWithin l.place;
  count : length l.made.items ≡ l.leg-index;
}

abbrev pub decreases-check_rung : goal.decreases-check_rung
decreases-check_rung l = 2 * tree_size l.rung.now

abbrev pub decreases-check_element : goal.decreases-check_element
decreases-check_element l = 2 * element_size l.element.now

abbrev pub decreases-check_legs : goal.decreases-check_legs
decreases-check_legs l = 2 * list_size l.legs.now + 1
