-- The same nodes are stepped, from the other end.
use Rattle.lgx_explore.proofs.Keeping.{others_keep, others_stepped, others_shown}
use Rattle.lgx_explore.proofs.layer.next_nodes.Goals as goal

pub returns-clause-keep : goal.returns-clause-keep
returns-clause-keep g c = others_keep g.N.Node.stands g.N.Node.keeps c.args.script.now c.args.question.now c.args.nodes.items c.last_first.result.items c.last_first.ensures _ c.step_nodes.ensures.keep

pub returns-clause-stepped : goal.returns-clause-stepped
returns-clause-stepped g c = others_stepped g.N.Node.stands g.N.Node.keeps c.args.script.now c.args.question.now c.args.nodes.items c.last_first.result.items c.last_first.ensures _ c.step_nodes.ensures.stepped

pub returns-clause-shown : goal.returns-clause-shown
returns-clause-shown g c = others_shown g.N.Node.stands g.N.Node.keeps c.args.script.now c.args.question.now c.args.nodes.items c.last_first.result.items c.last_first.ensures _ c.step_nodes.ensures.shown
