use Rattle.std.proofs.Common.{rules}
use Rattle.std.proofs.lemmas.List.Elements.{All-same, All-pop, All-push}
use Rattle.lgx_stations.specs.Telling.{AreReadingsOf}
use Rattle.lgx_stations.specs.Watching.{HasRead}
use Rattle.lgx_stations.proofs.stations.finish_all.Goals as goal

pub loop-watcher-preserved : goal.loop-watcher-preserved
loop-watcher-preserved g c = (
  search rules,
  search rules,
  (All-pop (λ w. HasRead g.S.Story.story w.station w.first) c.loop-watcher.watchers.items c.pop.new.self.items c.pop.result c.pop.ensures.items c.loop-watcher.invariant.2).0,
  All-same (λ r. AreReadingsOf g.S.Story.story r) c.push_reserved.new.self.items _ c.push_reserved.ensures.items
      (All-push (λ r. AreReadingsOf g.S.Story.story r) c.loop-watcher.readings.items c.finish.result c.loop-watcher.invariant.3 c.finish.ensures.readings),
)
