use Rattle.lgx_watch.proofs.BitSets.{member-within, member-past}
use Rattle.lgx_watch.proofs.watch_set.WatchSet.of_words.Goals as goal

pub returns-clause-within : goal.returns-clause-within
returns-clause-within c = member-within c.args.words

pub returns-clause-past : goal.returns-clause-past
returns-clause-past c = member-past c.args.words
