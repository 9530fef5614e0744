use Rattle.std.proofs.Common.{length}
use Rattle.lgx_types.specs.Cycles.{IsSearch, AllSeen, to_see}
use Rattle.lgx_types.proofs.cycle.reaches_itself.Given as goal

abbrev pub invariant-loop-j : goal.invariant-loop-j
invariant-loop-j l = record {
  search : IsSearch l.resolved l.i (length l.resolved) l.seen l.waiting.items;
  own : AllSeen l.resolved l.seen l.i;
}

abbrev pub decreases-loop-j : goal.decreases-loop-j
decreases-loop-j l = to_see l.seen l.waiting.items
