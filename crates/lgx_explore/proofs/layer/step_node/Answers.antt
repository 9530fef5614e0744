-- The node that was made is among the next.
use Rattle.std.proofs.Common.{ap}
use Rattle.std.specs.Prelude.{Ok}
use Rattle.lgx_explore.proofs.Closing.{node_stepped}
use Rattle.lgx_explore.proofs.Keeping.{step_added}
use Rattle.lgx_explore.proofs.layer.step_node.Goals as goal

pub returns-in-Ok-clause-keep : goal.returns-in-Ok-clause-keep
returns-in-Ok-clause-keep g c =
    step_added g.N.Node.stands g.N.Node.keeps c.args.script.now c.args.question.now c.args.next.now.items c.add.new.nodes.items c.args.node c.step.new.self
    (c.in-Ok-true.ensures.stepped (ap (λ b. Ok b) c.in-Ok-true.field-0-test)) c.in-Ok.ensures.only

pub returns-in-Ok-clause-stepped : goal.returns-in-Ok-clause-stepped
returns-in-Ok-clause-stepped g c =
    node_stepped g.N.Node.stands g.N.Node.keeps c.args.script.now c.args.question.now c.add.new.nodes.items c.args.node c.step.new.self
    (c.in-Ok-true.ensures.stepped (ap (λ b. Ok b) c.in-Ok-true.field-0-test)) c.in-Ok.ensures.has

pub returns-in-Err-Limit-add-clause-keep : goal.returns-in-Err-Limit-add-clause-keep
returns-in-Err-Limit-add-clause-keep g c =
    step_added g.N.Node.stands g.N.Node.keeps c.args.script.now c.args.question.now c.args.next.now.items c.add.new.nodes.items c.args.node c.step.new.self
    (c.in-Ok-true.ensures.stepped (ap (λ b. Ok b) c.in-Ok-true.field-0-test)) c.in-Err-Limit-add.ensures.only

pub returns-in-Err-Memory-add-clause-keep : goal.returns-in-Err-Memory-add-clause-keep
returns-in-Err-Memory-add-clause-keep g c =
    step_added g.N.Node.stands g.N.Node.keeps c.args.script.now c.args.question.now c.args.next.now.items c.add.new.nodes.items c.args.node c.step.new.self
    (c.in-Ok-true.ensures.stepped (ap (λ b. Ok b) c.in-Ok-true.field-0-test)) c.in-Err-Memory-add.ensures.only
