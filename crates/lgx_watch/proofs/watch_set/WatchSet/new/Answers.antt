use Rattle.lgx_watch.proofs.BitSets.{no_member}
use Rattle.lgx_watch.proofs.watch_set.WatchSet.new.Goals as goal

pub returns : goal.returns
returns c = no_member c.no_bits.result c.no_bits.ensures
