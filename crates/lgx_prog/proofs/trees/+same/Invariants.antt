-- Those before are the same.
use Rattle.std.proofs.Common.{◌≡◌, length, take}
use Rattle.lgx_prog.proofs.trees.+same.Given as goal

abbrev pub invariant-same_legs-loop-number : goal.invariant-same_legs-loop-number
invariant-same_legs-loop-number l = (length l.leg-items ≡ length l.b-inside.legs.items) × (l.number-end ≡ length l.leg-items) × (take l.number l.leg-items ≡ take l.number l.b-inside.legs.items)

abbrev pub invariant-same_rung-loop-number : goal.invariant-same_rung-loop-number
invariant-same_rung-loop-number l = (length l.node-items ≡ length l.b-inside.nodes.items) × (l.number-end ≡ length l.node-items) × (take l.number l.node-items ≡ take l.number l.b-inside.nodes.items)
