-- As many lists as were counted, none of which has a use.
use Rattle.std.proofs.Common.{◌≡◌, [], replicate}
use Rattle.lgx_xref.proofs.note.no_uses.Given as goal

abbrev pub invariant-loop : goal.invariant-loop
invariant-loop l = l.lists.items ≡ replicate l.counter []
