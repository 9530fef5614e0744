use Rattle.std.proofs.Common.{◌≡◌, ℕ, ◌+◌, ◌≤◌, ◌<◌, false}
use mathlib.Core.List.{IsPrefix}
use Rattle.lgx_lanes.proofs.lanes.lane_loop.Given as goal

abbrev pub invariant-loop-turn : goal.invariant-loop-turn
invariant-loop-turn g l =
    (l.pass.lane ≡ l.fn.pass.lane) × (l.pass.length ≡ l.fn.pass.length) × (l.pass.least_steps ≡ l.fn.pass.least_steps)
    × (l.fn.pass.actions ≤ l.pass.actions) × (l.fn.pass.steps ≤ l.pass.steps) × (l.pass.ends ≡ 0) × (l.pass.short ≡ false)
    × (l.pass.actions + l.pass.steps ≡ l.fn.pass.actions + l.fn.pass.steps + l._turn)
    × IsPrefix l.fn.pass.front.events l.pass.front.events
    × ((n : ℕ) → l.fn.pass.actions ≤ n → n < l.pass.actions → g.G.Gate.asked l.gate l.fn.pass.lane n)
