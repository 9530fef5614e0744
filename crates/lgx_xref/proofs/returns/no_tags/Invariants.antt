-- As many lists as were counted, none of which has a tag.
use Rattle.std.proofs.Common.{◌≡◌, [], replicate}
use Rattle.lgx_xref.proofs.returns.no_tags.Given as goal

abbrev pub invariant-loop : goal.invariant-loop
invariant-loop l = l.sets.items ≡ replicate l.counter []
