use Rattle.lgx_watch.proofs.BitSets.{members_joined}
use Rattle.lgx_watch.proofs.watch_set.WatchSet.join.Goals as goal

pub returns : goal.returns
returns c = rw (← c.self.view_is, ← c.other.view_is) (members_joined c.self.inside.words c.other.inside.words c.join_bits.new.words c.join_bits.ensures)
