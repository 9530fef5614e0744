-- One more, till all are stepped.
use Rattle.std.proofs.Common.{ap, length, List, arith}
use Rattle.std.proofs.lemmas.Option.{MatchOption-at_none}
use Rattle.lgx_explore.proofs.Closing.{none_stepped, one_step_more, last_among, all_steps, empty}
use Rattle.lgx_explore.proofs.Keeping.{none_so_far, one_more}
use Rattle.lgx_explore.proofs.layer.step_nodes.Goals as goal

pub step_node-requires : goal.step_node-requires
step_node-requires g c = c.loop-node.invariant.0

pub loop-node-init : goal.loop-node-init
loop-node-init g c = (
  (let e = ap (λ (ns : List _). length ns) c.new-next.ensures.items in omega arith),
  none_so_far g.N.Node.stands g.N.Node.keeps c.args.script.now c.args.question.now c.args.nodes.items c.new-next.result.items c.new-next.ensures.items,
  none_stepped g.N.Node.stands g.N.Node.keeps c.args.script.now c.args.question.now c.args.nodes.items c.new-next.result.items,
)

pub loop-node-preserved : goal.loop-node-preserved
loop-node-preserved g c =
    let stands = g.N.Node.stands in
    let keeps = g.N.Node.keeps in
    let s = c.args.script.now in
    let q = c.args.question.now in
    let nodes = c.args.nodes.items in
    let left = c.loop-node.nodes.items in
    let rest = c.pop.new.self.items in
    let old = c.loop-node.next.items in
    let new = c.step_node.new.next.items in
    let inv = c.loop-node.invariant in
    let last = c.in-Some.ensures.items in (
      c.in-Ok.ensures.within,
      one_more stands keeps s q nodes old new c.in-Some.node (last_among stands keeps s q nodes left rest old c.in-Some.node inv.2 last) c.in-Ok.ensures.keep inv.1,
      one_step_more stands keeps s q nodes left rest old new c.in-Some.node inv.2 last c.in-Ok.ensures.adds c.in-Ok.ensures.stepped,
    )

pub returns-clause-stepped : goal.returns-clause-stepped
returns-clause-stepped g c =
    all_steps g.N.Node.stands g.N.Node.keeps c.args.script.now c.args.question.now c.args.nodes.items c.loop-node.nodes.items c.loop-node.next.items
    (empty c.loop-node.nodes.items (let a = (MatchOption-at_none _ _ c.in_default.is c.pop.ensures.cases).0 in omega arith)) c.loop-node.invariant.2
