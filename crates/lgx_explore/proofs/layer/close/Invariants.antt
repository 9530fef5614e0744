-- The nodes before are done, and nodes were added alone.
use Rattle.std.proofs.Common.{◌≤◌, length}
use Rattle.lgx_explore.specs.Nodes.{AddsTo, StillKeep}
use Rattle.lgx_explore.proofs.Closing.{NodesActed}
use Rattle.lgx_explore.proofs.layer.close.Given as goal

abbrev pub invariant-loop-i : goal.invariant-loop-i
invariant-loop-i g l =
    (length l.nodes.items ≤ l.most)
    × AddsTo g.N.Node.stands l.initial.nodes.items l.nodes.items
    × StillKeep g.N.Node.stands g.N.Node.keeps l.script l.question l.initial.nodes.items l.nodes.items
    × NodesActed g.N.Node.stands g.N.Node.keeps l.script l.question l.nodes.items l.i
