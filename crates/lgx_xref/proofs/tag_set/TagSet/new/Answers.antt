-- No tag is there twice.
use Rattle.lgx_xref.proofs.Tagged.{none_distinct}
use Rattle.lgx_xref.proofs.tag_set.TagSet.new.Goals as goal

pub invariant_of-result : goal.invariant_of-result
invariant_of-result c = none_distinct c.new.result.items c.new.ensures.items
