-- The node is among the nodes.
use Rattle.lgx_explore.proofs.Closing.{pushed_has}
use Rattle.lgx_explore.proofs.layer.add.Goals as goal

pub returns-clause-has : goal.returns-clause-has
returns-clause-has g c = pushed_has g.N.Node.stands c.args.nodes.now.items c.push.new.self.items c.args.node c.in_ok-push.ensures.items
