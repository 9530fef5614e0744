-- Each station's place gives its number.
use Rattle.std.proofs.Common.{◌≡◌, ℕ, ◌+◌, ◌-◌, ◌<◌, length, rules, ap, subst, arith}
use Rattle.lgx_stations.specs.declared.gated.TheConstants.{READS}
use Rattle.lgx_stations.proofs.Asked.{any_of}
use Rattle.lgx_stations.proofs.stations.watch_all.Goals as goal

pub returns-clause-asked : goal.returns-clause-asked
returns-clause-asked g c = λ lane n few least.
    let watchers = c.args.watchers.now in
    let i = length watchers - (lane + 1) in
    let below : i < length watchers = omega (arith, few) in
    let d = any_of watchers c.requires.some in
    let e = (c.for_each_mut.ensures i d below).1 in
    let asked : (m : ℕ) → m < READS → g.G.Gate.asked c.args.gate.now e.argument.now.lane m = search rules in
    let place = (c.requires.new i d below).0 in
    let named = ap (λ w. w.lane) e.argument_is in
    let here : e.argument.now.lane ≡ lane = omega (arith, few, place, named) in
    subst (λ k. g.G.Gate.asked c.args.gate.now k n) here (asked n least)
