use Rattle.std.proofs.Common.{◌≡◌, ◌+◌, length, vec_len, rules, arith}
use Rattle.std.proofs.lemmas.List.Elements.{All-pop}
use Rattle.lgx_lanes.proofs.Pushes.{each_push}
use Rattle.lgx_stations.specs.Watching.{IsUnread}
use Rattle.lgx_stations.proofs.stations.number_all.Goals as goal

pub loop-station-preserved : goal.loop-station-preserved
loop-station-preserved g c =
    let watchers = c.loop-station.watchers.items in
    let n = vec_len c.args.stations in
    let count = vec_len c.loop-station.watchers in
    let long : length watchers ≡ count = search rules in
    let more : vec_len c.push_reserved.new.self ≡ count + 1 = search rules in
    let place : c.new.result.lane + count + 1 ≡ n = search rules in (
      search rules,
      search rules,
      (All-pop (λ s. s.reads ≡ 0) c.loop-station.stations.items c.pop.new.self.items c.pop.result c.pop.ensures.items c.loop-station.invariant.2).0,
      (λ i d less.
          each_push (λ k w. IsUnread n k w.lane w.station w.first) watchers c.push_reserved.new.self.items c.new.result count c.push_reserved.ensures.items long
          c.loop-station.invariant.3 (place, c.new.ensures.reads, c.new.ensures.first) i d (omega (arith, less, more))),
    )
