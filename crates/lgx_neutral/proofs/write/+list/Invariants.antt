use Rattle.std.proofs.Common.{◌≡◌, ◌+◌, ◌*◌, ◌++◌, drop}
use Rattle.lgx_rung.specs.Elements.{tree_of}
use Rattle.lgx_rung.specs.Sizes.{tree_size, list_size}
use Rattle.lgx_rung.specs.Text.{canon_tokens, list_tokens, leg_tokens}
use Rattle.lgx_rung.specs.Tree.{legs_of}
use Rattle.lgx_rung.proofs.Walks.{element_size}
use Rattle.lgx_neutral.proofs.write.+list.Given as goal

abbrev pub invariant-write_list-loop-element : goal.invariant-write_list-loop-element
invariant-write_list-loop-element l =
    l.text.items ++ canon_tokens (list_tokens (tree_of (drop l.element-index l.element-items))) ≡ l.fn.text.items ++ canon_tokens (list_tokens l.rung)

abbrev pub invariant-write_legs-loop-leg : goal.invariant-write_legs-loop-leg
invariant-write_legs-loop-leg l =
    l.text.items ++ canon_tokens (leg_tokens (legs_of (drop l.leg-index l.others))) ≡ l.initial.text.items ++ canon_tokens (leg_tokens (legs_of l.others))

abbrev pub decreases-write_list : goal.decreases-write_list
decreases-write_list l = 2 * tree_size l.rung.now

abbrev pub decreases-write_element : goal.decreases-write_element
decreases-write_element l = 2 * element_size l.element.now

abbrev pub decreases-write_fork : goal.decreases-write_fork
decreases-write_fork l = 2 * list_size l.legs.now + 1

abbrev pub decreases-write_legs : goal.decreases-write_legs
decreases-write_legs l = 2 * list_size l.legs.now
