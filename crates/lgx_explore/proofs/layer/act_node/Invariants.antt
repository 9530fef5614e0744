-- The lanes before are done, and nodes were added alone.
use Rattle.std.proofs.Common.{◌≡◌, ◌<◌, ◌≤◌, length, get_or}
use Rattle.lgx_explore.specs.Nodes.{AddsTo, StillKeep}
use Rattle.lgx_explore.proofs.Closing.{LanesActed}
use Rattle.lgx_explore.proofs.layer.act_node.Given as goal

abbrev pub invariant-loop-lane : goal.invariant-loop-lane
invariant-loop-lane g l =
    (l.i < length l.nodes.items)
    × (length l.nodes.items ≤ l.most)
    × AddsTo g.N.Node.stands l.initial.nodes.items l.nodes.items
    × StillKeep g.N.Node.stands g.N.Node.keeps l.script l.question l.initial.nodes.items l.nodes.items
    × ((node : _) → get_or l.nodes.items l.i node ≡ node → LanesActed g.N.Node.stands g.N.Node.keeps l.script l.question l.nodes.items node l.lane)
