-- One lane more; and no lane of a higher number has an action.
use Rattle.std.proofs.Common.{◌≡◌, length, ap, arith}
use Rattle.spec_text.specs.Scripts.{Script}
use Rattle.lgx_explore.proofs.Closing.{adds_both, adds_length, adds_at, adds_back, lanes_stay, one_lane_more, all_lanes}
use Rattle.lgx_explore.proofs.Keeping.{both_added}
use Rattle.lgx_explore.proofs.layer.act_node.Goals as goal

pub act_lane-requires-clause-within : goal.act_lane-requires-clause-within
act_lane-requires-clause-within g c = c.loop-lane.invariant.1

pub returns-in_err-act_lane-clause-keep : goal.returns-in_err-act_lane-clause-keep
returns-in_err-act_lane-clause-keep g c =
    both_added g.N.Node.stands g.N.Node.keeps c.args.script.now c.args.question.now c.args.nodes.now.items c.loop-lane.nodes.items c.act_lane.new.nodes.items c.loop-lane.invariant.3 c.in_err-act_lane.ensures.keep

pub returns-clause-within : goal.returns-clause-within
returns-clause-within g c = c.loop-lane.invariant.1

pub returns-clause-keep : goal.returns-clause-keep
returns-clause-keep g c = c.loop-lane.invariant.3

pub loop-lane-preserved : goal.loop-lane-preserved
loop-lane-preserved g c =
    let stands = g.N.Node.stands in
    let keeps = g.N.Node.keeps in
    let s = c.args.script.now in
    let q = c.args.question.now in
    let old = c.loop-lane.nodes.items in
    let new = c.act_lane.new.nodes.items in
    let inv = c.loop-lane.invariant in
    let adds = c.in_ok-act_lane.ensures.adds in (
      adds_length stands keeps s q old new c.args.i adds inv.0,
      c.in_ok-act_lane.ensures.within,
      adds_both stands keeps s q c.args.nodes.now.items old new inv.2 adds,
      both_added stands keeps s q c.args.nodes.now.items old new inv.3 c.in_ok-act_lane.ensures.keep,
      λ node here.
          let before = adds_back stands keeps s q old new c.args.i node adds inv.0 here in
          one_lane_more stands keeps s q new node c.loop-lane.lane (lanes_stay stands keeps s q old new node c.loop-lane.lane adds (inv.4 node before)) (c.in_ok-act_lane.ensures.acted node before),
    )

pub returns-clause-acted : goal.returns-clause-acted
returns-clause-acted g c = λ node here.
    let stands = g.N.Node.stands in
    let keeps = g.N.Node.keeps in
    let s = c.args.script.now in
    let q = c.args.question.now in
    let inv = c.loop-lane.invariant in
    let now = adds_at stands keeps s q c.args.nodes.now.items c.loop-lane.nodes.items c.args.i node inv.2 c.requires.here here in
    all_lanes stands keeps s q c.loop-lane.nodes.items node (λ lane lt. inv.4 node now lane (let a = c.loop-lane-test.false in let b = c.len-lane-end.ensures in let e : length c.script.inside.lanes ≡ length c.args.script.now.lanes = ap (λ (x : Script). length x.lanes) c.script.view_is in omega arith))
