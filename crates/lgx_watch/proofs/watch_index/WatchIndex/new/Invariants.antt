use Rattle.lgx_watch.proofs.Rows.{IsPartIndex}
use Rattle.lgx_watch.proofs.watch_index.WatchIndex.new.Given as goal

abbrev pub invariant-loop-number : goal.invariant-loop-number
invariant-loop-number l = IsPartIndex l.places l.number l.rows.items
