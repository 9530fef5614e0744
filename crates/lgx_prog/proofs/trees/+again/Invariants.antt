-- Those before are copied.
use Rattle.std.proofs.Common.{◌≡◌, take}
use Rattle.lgx_prog.proofs.trees.+again.Given as goal

abbrev pub invariant-rung_again-loop-node : goal.invariant-rung_again-loop-node
invariant-rung_again-loop-node l = l.nodes.items ≡ take l.node-index l.node-items

abbrev pub invariant-legs_again-loop-leg : goal.invariant-legs_again-loop-leg
invariant-legs_again-loop-leg l = l.list.items ≡ take l.leg-index l.leg-items
