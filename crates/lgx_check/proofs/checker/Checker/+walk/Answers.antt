use Rattle.std.proofs.Common.{◌<◌, false, length, arith, ap, ◌∙◌, length-append}
use Rattle.lgx_rung.specs.Sizes.{tree_size, list_size}
use Rattle.lgx_rung.proofs.Walks.{element_size}
use Rattle.std.proofs.Common.{refl, List, [], ◌∷◌}
use Rattle.lgx_prog.specs.declared.rung.Node.{Node}
use Rattle.lgx_prog.specs.Nodes.{tree_of}
use Rattle.lgx_check.specs.Checkers.{check_of, checked_scope}
use Rattle.lgx_check.specs.Spots.{spot_at}
use Rattle.lgx_rung.proofs.Walks.{element_of, leg_of}
use Rattle.lgx_check.proofs.Walking.{node_step, rung_made, leg_step, fork_done, element_place, leg_place, made_nested}
use Rattle.lgx_check.proofs.checker.Checker.+walk.Goals as goal

pub check_rung-check_element-requires : goal.check_rung-check_element-requires
check_rung-check_element-requires t c =
    let d = c.decreases in
    let falls : element_size c.element-item.result < tree_size c.args.rung.now =
    element_of c.elements-element-items.result.now c.loop-element.element-index c.element-item.result c.args.rung.now c.elements-element-items.ensures.elements c.loop-element-test.true c.element-item.is in
    (omega arith, (c.requires.ready, c.loop-element.invariant.within))

pub check_rung-loop-element-preserved : goal.check_rung-loop-element-preserved
check_rung-loop-element-preserved t c = record {
  answer = node_step (check_of c.args.self.now) c.elements-element-items.result.now c.loop-element.element-index c.element-item.result c.loop-element.nodes.items c.push.new.self.items c.in_ok-node.node c.loop-element.first c.loop-element.place c.check_element.new.place _
      c.loop-element-test.true c.element-item.is c.in_ok-push.ensures.items c.in_ok-node.ensures.place c.in_ok-node.ensures.answer c.loop-element.invariant.answer;
  place = element_place c.elements-element-items.result.now c.loop-element.element-index c.element-item.result c.loop-element.place c.check_element.new.place c.loop-element-test.true c.element-item.is c.in_ok-node.ensures.place ∙ c.loop-element.invariant.place;
  within = c.in_ok-node.ensures.within;
}

pub check_legs-check_rung-requires : goal.check_legs-check_rung-requires
check_legs-check_rung-requires t c =
    let d = c.decreases in
    let falls : tree_size c.leg-item.result < list_size c.args.legs.now =
    leg_of c.as_slice-leg-items.result.now c.args.legs.now c.loop-leg.leg-index c.leg-item.result c.as_slice-leg-items.ensures.legs c.loop-leg-test.true c.leg-item.is in
    (omega arith, (c.requires.ready, c.loop-leg.invariant.within))

pub check_rung-of-requires : goal.check_rung-of-requires
check_rung-of-requires t c =
    let made : List Node = c.loop-element.nodes.items in
    made_nested (checked_scope c.args.self.now) c.args.self.now.labels (spot_at c.args.leads c.args.place.now) c.args.rung.now (tree_of made)
    (rung_made (check_of c.args.self.now) c.elements-element-items.result.now c.loop-element.element-index made (spot_at c.loop-element.first c.loop-element.place) _ (tree_of made) (omega arith) c.loop-element.invariant.answer refl)
    c.elements-element-items.ensures.source.nested

pub check_rung-returns-clause-answer : goal.check_rung-returns-clause-answer
check_rung-returns-clause-answer t c =
    rung_made (check_of c.args.self.now) c.elements-element-items.result.now c.loop-element.element-index c.loop-element.nodes.items (spot_at c.loop-element.first c.loop-element.place) _ c.of.result (omega arith) c.loop-element.invariant.answer c.of.ensures

pub check_legs-loop-leg-preserved : goal.check_legs-loop-leg-preserved
check_legs-loop-leg-preserved t c = record {
  answer = leg_step (check_of c.args.self.now) c.as_slice-leg-items.result.now c.loop-leg.leg-index c.leg-item.result c.loop-leg.made.items c.push.new.self.items c.in_ok-checked.checked c.loop-leg.place c.check_rung.new.place _
      c.loop-leg-test.true c.leg-item.is c.in_ok-push.ensures.items c.in_ok-checked.ensures.place c.in_ok-checked.ensures.answer c.loop-leg.invariant.answer;
  place = leg_place c.as_slice-leg-items.result.now c.loop-leg.leg-index c.leg-item.result c.loop-leg.place c.check_rung.new.place c.loop-leg-test.true c.leg-item.is c.in_ok-checked.ensures.place ∙ c.loop-leg.invariant.place;
  within = c.in_ok-checked.ensures.within;
  count = omega (arith, ap length c.in_ok-push.ensures.items, length-append c.loop-leg.made.items (c.in_ok-checked.checked ∷ []), c.loop-leg.invariant.count);
}

pub check_legs-returns-clause-answer : goal.check_legs-returns-clause-answer
check_legs-returns-clause-answer t c =
    fork_done (check_of c.args.self.now) c.as_slice-leg-items.result.now c.loop-leg.leg-index c.loop-leg.made.items (spot_at false c.loop-leg.place) _ c.of.result (omega arith) c.loop-leg.invariant.answer c.of.ensures
