-- The instructions so far, and those that are left of a rung and of a fork's legs.
use Rattle.std.proofs.Common.{◌≡◌, ◌+◌, ◌*◌, ◌≤◌, ◌++◌, length, drop}
use Rattle.lgx_rung.specs.Sizes.{tree_size, list_size}
use Rattle.lgx_rung.specs.Tree.{instructions, leg_instructions, legs_of}
use Rattle.lgx_prog.specs.Nodes.{tree_of}
use Rattle.lgx_xref.specs.Spots.{sites_on}
use Rattle.lgx_xref.proofs.Placing.{node_size}
use Rattle.lgx_xref.proofs.placed.+place.Given as goal

abbrev pub invariant-place_rung-loop-node : goal.invariant-place_rung-loop-node
invariant-place_rung-loop-node l = record {
  before : l.here.before ≤ length l.placed.items;
  placed : l.placed.items ++ sites_on l.here (length l.placed.items) (instructions (tree_of (drop l.node-index l.node-items)))
      ≡ l.fn.placed.items ++ sites_on l.here (length l.fn.placed.items) (instructions l.rung);
}

abbrev pub invariant-place_legs-loop-leg : goal.invariant-place_legs-loop-leg
invariant-place_legs-loop-leg l = record {
  before : l.here.before ≤ length l.placed.items;
  placed : l.placed.items ++ sites_on l.here (length l.placed.items) (leg_instructions (legs_of (drop l.leg-index l.leg-items)))
      ≡ l.fn.placed.items ++ sites_on l.here (length l.fn.placed.items) (leg_instructions (legs_of l.legs));
}

abbrev pub decreases-place_rung : goal.decreases-place_rung
decreases-place_rung l = 2 * tree_size l.rung.now

abbrev pub decreases-place_node : goal.decreases-place_node
decreases-place_node l = 2 * node_size l.node.now

abbrev pub decreases-place_legs : goal.decreases-place_legs
decreases-place_legs l = 2 * list_size l.legs.now + 1
