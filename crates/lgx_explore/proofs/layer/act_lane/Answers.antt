-- The node that was made is among the nodes.
use Rattle.std.proofs.Common.{sym}
use Rattle.lgx_explore.proofs.Closing.{lane_acted_at, action_shows_at, err_on}
use Rattle.lgx_explore.proofs.Keeping.{act_added}
use Rattle.lgx_explore.proofs.layer.act_lane.Goals as goal

pub returns-in_ok-add-in-Some-clause-acted : goal.returns-in_ok-add-in-Some-clause-acted
returns-in_ok-add-in-Some-clause-acted g c = λ node here.
    lane_acted_at g.N.Node.stands g.N.Node.keeps c.args.script.now c.args.question.now c.args.nodes.now.items c.add.new.nodes.items c.args.i c.args.lane c.index.result.now node c.in-Some.node c.in_ok-node.field-0
    c.requires.here (sym c.index.ensures) here c.in_ok-node.ensures.acted c.in-Some.is c.in_ok-add-in-Some.ensures.has

pub returns-in_ok-add-in-Some-clause-keep : goal.returns-in_ok-add-in-Some-clause-keep
returns-in_ok-add-in-Some-clause-keep g c =
    act_added g.N.Node.stands g.N.Node.keeps c.args.script.now c.args.question.now c.args.nodes.now.items c.add.new.nodes.items c.args.i c.args.lane c.index.result.now c.in-Some.node c.in_ok-node.field-0
    c.requires.here (sym c.index.ensures) c.in_ok-node.ensures.acted c.in-Some.is c.in_ok-add-in-Some.ensures.only

pub returns-in_err-node-clause-shown : goal.returns-in_err-node-clause-shown
returns-in_err-node-clause-shown g c =
    err_on c.from_residual.result _ _ c.from_residual.ensures.1
    (action_shows_at g.N.Node.stands c.args.script.now c.args.question.now c.args.nodes.now.items c.args.i c.index.result.now _ c.requires.here (sym c.index.ensures) c.in_err-node.ensures.shown)

pub returns-in_err-add-in-Some-clause-keep : goal.returns-in_err-add-in-Some-clause-keep
returns-in_err-add-in-Some-clause-keep g c =
    act_added g.N.Node.stands g.N.Node.keeps c.args.script.now c.args.question.now c.args.nodes.now.items c.add.new.nodes.items c.args.i c.args.lane c.index.result.now c.in-Some.node c.in_ok-node.field-0
    c.requires.here (sym c.index.ensures) c.in_ok-node.ensures.acted c.in-Some.is c.in_err-add-in-Some.ensures.only
