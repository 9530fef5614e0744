-- One node, and one leg, are added.
use Rattle.std.proofs.Common.{◌<◌, ◌∙◌, arith}
use Rattle.lgx_rung.specs.Sizes.{tree_size, list_size}
use Rattle.lgx_xref.proofs.Placing.{leg_of, leg_on, node_of, node_on, node_size, still_before}
use Rattle.lgx_xref.proofs.placed.+place.Goals as goal

pub place_rung-place_node-requires : goal.place_rung-place_node-requires
place_rung-place_node-requires t c =
    let d = c.decreases in
    let falls : node_size c.node-item.result < tree_size c.args.rung.now =
    node_of c.nodes-node-items.result.now c.loop-node.node-index c.node-item.result c.args.rung.now c.nodes-node-items.ensures.nodes c.loop-node-test.true c.node-item.is in
    (omega arith, c.loop-node.invariant.before)

pub place_rung-loop-node-preserved : goal.place_rung-loop-node-preserved
place_rung-loop-node-preserved t c = record {
  before = still_before c.args.here c.loop-node.placed.items _ _ c.loop-node.invariant.before c.in_ok-place_node.ensures;
  placed =
      node_on c.args.here c.nodes-node-items.result.now c.loop-node.node-index c.node-item.result c.loop-node.placed.items _ c.loop-node-test.true c.node-item.is c.loop-node.invariant.before c.in_ok-place_node.ensures
      ∙ c.loop-node.invariant.placed;
}

pub place_legs-place_rung-requires : goal.place_legs-place_rung-requires
place_legs-place_rung-requires t c =
    let d = c.decreases in
    let falls : tree_size c.leg-item.result < list_size c.args.legs.now =
    leg_of c.as_slice-leg-items.result.now c.args.legs.now c.loop-leg.leg-index c.leg-item.result c.as_slice-leg-items.ensures.legs c.loop-leg-test.true c.leg-item.is in
    (omega arith, c.loop-leg.invariant.before)

pub place_legs-loop-leg-preserved : goal.place_legs-loop-leg-preserved
place_legs-loop-leg-preserved t c = record {
  before = still_before c.args.here c.loop-leg.placed.items _ _ c.loop-leg.invariant.before c.in_ok-place_rung.ensures;
  placed =
      leg_on c.args.here c.as_slice-leg-items.result.now c.loop-leg.leg-index c.leg-item.result c.loop-leg.placed.items _ c.loop-leg-test.true c.leg-item.is c.loop-leg.invariant.before c.in_ok-place_rung.ensures
      ∙ c.loop-leg.invariant.placed;
}
