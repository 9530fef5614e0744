use Rattle.std.proofs.Common.{rules}
use Rattle.std.proofs.lemmas.List.{take_at}
use Rattle.std.proofs.lemmas.List.Elements.{All-same}
use Rattle.spec_story.specs.Snapshots.{snapshots}
use Rattle.lgx_stations.specs.Watching.{HasRead}
use Rattle.lgx_stations.proofs.stations.watch_through.Goals as goal

pub finish_all-requires-clause-read : goal.finish_all-requires-clause-read
finish_all-requires-clause-read g c =
    All-same (λ w. HasRead (snapshots g.I.JournalInput.project g.I.JournalInput.journal) w.station w.first) _ _ (take_at c.run_beside.new.watchers _ _ (search rules)) c.in_ok-run_beside.ensures.read
