use Rattle.std.proofs.Common.{◌∷◌, [], ◌++◌, ◌<◌, ap, ◌∙◌, arith}
use Rattle.lgx_rung.specs.Sizes.{tree_size, list_size}
use Rattle.lgx_rung.specs.Text.{canon_tokens, list_tokens}
use Rattle.lgx_rung.proofs.Walks.{element_size}
use Rattle.lgx_neutral.specs.Writing.{legs_tokens}
use Rattle.lgx_rung.proofs.Walks.{element_of}
use Rattle.lgx_neutral.proofs.Writing.{fork_text, element_written, leg_written, legs_written, others_of, other_of_legs}
use Rattle.lgx_neutral.proofs.write.+list.Goals as goal

pub write_fork-returns : goal.write_fork-returns
write_fork-returns t c =
    let legs = c.in_ok-write_legs.ensures ∙ ap (λ x. c.push.new.self.items ++ canon_tokens (legs_tokens x)) c.as_slice.ensures.legs in
    c.in_ok-push-2.ensures.items
    ∙ ap (λ x. x ++ 93 ∷ []) (legs ∙ ap (λ x. x ++ canon_tokens (legs_tokens c.args.legs.now)) c.in_ok-push.ensures.items)
    ∙ fork_text c.args.text.now.items c.args.legs.now

pub write_legs-write_list-requires-in-loop-leg : goal.write_legs-write_list-requires-in-loop-leg
write_legs-write_list-requires-in-loop-leg t c =
    let d = c.decreases in
    let falls : tree_size c.leg-item.result < list_size c.args.legs.now = other_of_legs c.args.legs.now c.loop-leg.leg-index c.leg-item.result c.loop-leg-test.true c.leg-item.is in
    (omega arith, tt)

pub write_legs-loop-leg-preserved : goal.write_legs-loop-leg-preserved
write_legs-loop-leg-preserved t c =
    leg_written (others_of c.args.legs.now) c.loop-leg.leg-index c.leg-item.result c.loop-leg.text.items c.write_list-in-loop-leg.new.text.items c.loop-leg-test.true c.leg-item.is
    (c.in_ok-write_list-2.ensures ∙ ap (λ x. x ++ canon_tokens (list_tokens c.leg-item.result)) c.in_ok-push.ensures.items)
    ∙ c.loop-leg.invariant

pub write_legs-returns : goal.write_legs-returns
write_legs-returns t c =
    legs_written c.args.legs.now c.loop-leg.leg-index c.first-item.result c.args.text.now.items c.write_list.new.text.items c.loop-leg.text.items
    (omega arith) c.first-item.is c.loop-leg-test.false c.in_ok-write_list.ensures c.loop-leg.invariant

pub write_list-write_element-requires : goal.write_list-write_element-requires
write_list-write_element-requires t c =
    let d = c.decreases in
    let falls : element_size c.element-item.result < tree_size c.args.rung.now =
    element_of c.elements-element-items.result.now c.loop-element.element-index c.element-item.result c.args.rung.now c.elements-element-items.ensures.elements c.loop-element-test.true c.element-item.is in
    (omega arith, tt)

pub write_list-loop-element-preserved : goal.write_list-loop-element-preserved
write_list-loop-element-preserved t c =
    element_written c.elements-element-items.result.now c.loop-element.element-index c.element-item.result c.loop-element.text.items c.write_element.new.text.items c.loop-element-test.true c.element-item.is
    c.in_ok-write_element.ensures
    ∙ c.loop-element.invariant
