-- One node more, till all are done.
use Rattle.std.proofs.Common.{arith}
use Rattle.lgx_explore.proofs.Closing.{adds_both, one_node_more, all_nodes}
use Rattle.lgx_explore.proofs.Keeping.{both_added}
use Rattle.lgx_explore.proofs.layer.close.Goals as goal

pub act_node-requires-clause-within : goal.act_node-requires-clause-within
act_node-requires-clause-within g c = c.loop-i.invariant.0

pub returns-then-i-len-clause-keep : goal.returns-then-i-len-clause-keep
returns-then-i-len-clause-keep g c = c.loop-i.invariant.2

pub returns-then-i-len-clause-acted : goal.returns-then-i-len-clause-acted
returns-then-i-len-clause-acted g c =
    all_nodes g.N.Node.stands g.N.Node.keeps c.args.script.now c.args.question.now c.loop-i.nodes.items c.loop-i.i (let a = c.if-i-len.true in let b = c.len.ensures in omega arith) c.loop-i.invariant.3

pub returns-in-Err-clause-keep : goal.returns-in-Err-clause-keep
returns-in-Err-clause-keep g c =
    both_added g.N.Node.stands g.N.Node.keeps c.args.script.now c.args.question.now c.args.nodes.now.items c.loop-i.nodes.items c.act_node.new.nodes.items c.loop-i.invariant.2 c.in-Err.ensures.keep

pub returns-clause-keep : goal.returns-clause-keep
returns-clause-keep g c = c.loop-i.invariant.2

pub returns-clause-acted : goal.returns-clause-acted
returns-clause-acted g c =
    all_nodes g.N.Node.stands g.N.Node.keeps c.args.script.now c.args.question.now c.loop-i.nodes.items c.loop-i.i (let a = c.loop-i.invariant.0 in let d = c.loop-i-test.false in omega arith) c.loop-i.invariant.3

pub loop-i-preserved : goal.loop-i-preserved
loop-i-preserved g c =
    let stands = g.N.Node.stands in
    let keeps = g.N.Node.keeps in
    let s = c.args.script.now in
    let q = c.args.question.now in
    let old = c.loop-i.nodes.items in
    let new = c.act_node.new.nodes.items in
    let inv = c.loop-i.invariant in
    let adds = c.in-Ok.ensures.adds in (
      c.in-Ok.ensures.within,
      adds_both stands keeps s q c.args.nodes.now.items old new inv.1 adds,
      both_added stands keeps s q c.args.nodes.now.items old new inv.2 c.in-Ok.ensures.keep,
      one_node_more stands keeps s q old new c.loop-i.i (let a = c.if-i-len.false in let b = c.len.ensures in omega arith) adds inv.3 c.in-Ok.ensures.acted,
    )
