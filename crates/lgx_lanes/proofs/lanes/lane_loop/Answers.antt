-- What is seen goes on, and the gate is asked once more, turn after turn.
use Rattle.std.proofs.Common.{ℕ, ◌+◌, ◌<◌, ◌≤◌, rules, subst}
use mathlib.Core.List.{IsPrefix}
use Rattle.lgx_lanes.proofs.Seeing.{sees_on, asked_on}
use Rattle.lgx_lanes.proofs.lanes.lane_loop.Goals as goal

pub returns-in-Done-clause-sees : goal.returns-in-Done-clause-sees
returns-in-Done-clause-sees g c =
    sees_on g.I.Input.project g.I.Input.script c.loop-turn.pass.lane c.args.pass.now.front.events c.loop-turn.pass.front.events c.turn.result c.turn.new.pass.front.events c.loop-turn.invariant.8 c.turn.ensures.tells

pub loop-turn-preserved : goal.loop-turn-preserved
loop-turn-preserved g c =
    let sees : IsPrefix c.args.pass.now.front.events c.turn.new.pass.front.events =
    sees_on g.I.Input.project g.I.Input.script c.loop-turn.pass.lane c.args.pass.now.front.events c.loop-turn.pass.front.events c.turn.result c.turn.new.pass.front.events c.loop-turn.invariant.8 c.turn.ensures.tells in
    let few : c.turn.new.pass.actions ≤ c.loop-turn.pass.actions + 1 = search rules in
    let here : g.G.Gate.asked c.args.gate.now c.args.pass.now.lane c.loop-turn.pass.actions =
    subst (λ k. g.G.Gate.asked c.args.gate.now k c.loop-turn.pass.actions) c.loop-turn.invariant.0 c.before-in-loop-turn.ensures in
    let asked : (n : ℕ) → c.args.pass.now.actions ≤ n → n < c.turn.new.pass.actions → g.G.Gate.asked c.args.gate.now c.args.pass.now.lane n =
    asked_on (λ n. g.G.Gate.asked c.args.gate.now c.args.pass.now.lane n) c.args.pass.now.actions c.loop-turn.pass.actions c.turn.new.pass.actions c.loop-turn.invariant.9 here few in
    search (rules, sees, asked)
