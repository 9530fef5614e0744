use Rattle.lgx_watch.proofs.Rows.{lone-is}
use Rattle.lgx_watch.proofs.watch_index.lone_in.Goals as goal

pub returns-in-None-next : goal.returns-in-None-next
returns-in-None-next c = lone-is c.args.words c.of_words-set.result c.in-Some.first c.of_words-set.ensures.within c.in-Some.ensures.next c.in-None-next.ensures.next
