use Rattle.lgx_image.proofs.WatchedWords.{none_between, zero_bit, no_marks}
use Rattle.lgx_image.proofs.hits.Hits.new.Goals as goal

pub invariant_of-result : goal.invariant_of-result
invariant_of-result c = rw c.in_ok-hits.ensures.ok (none_between _ 0 (zero_bit 1024))

pub returns-clause-watched : goal.returns-clause-watched
returns-clause-watched c = rw c.in_ok-watched.ensures.ok (no_marks 1024 _)

pub returns-clause-hits : goal.returns-clause-hits
returns-clause-hits c = rw c.in_ok-hits.ensures.ok (no_marks 1024 _)
