-- The last nodes are stepped.
use Rattle.std.proofs.Common.{◌≤◌, length}
use Rattle.std.specs.Prelude.{vec_len}
use Rattle.lgx_explore.specs.Nodes.{NextKeep}
use Rattle.lgx_explore.proofs.Closing.{AreStepped}
use Rattle.lgx_explore.proofs.layer.step_nodes.Given as goal

abbrev pub invariant-loop-node : goal.invariant-loop-node
invariant-loop-node g l =
    (length l.next.items ≤ l.most)
    × NextKeep g.N.Node.stands g.N.Node.keeps l.script l.question l.fn.nodes.items l.next.items
    × AreStepped g.N.Node.stands g.N.Node.keeps l.script l.question l.fn.nodes.items l.nodes.items l.next.items

abbrev pub decreases-loop-node : goal.decreases-loop-node
decreases-loop-node g l = vec_len l.nodes
