use Rattle.std.proofs.Common.{ℕ}
use Rattle.lgx_types.specs.Sizing.{IsSizing, IsVisited, remaining}
use Rattle.lgx_types.proofs.sizing.finish.Given as goal

abbrev pub invariant-loop-frame : goal.invariant-loop-frame
invariant-loop-frame l = record {
  sizing : IsSizing l.resolved l.visits l.stack.items;
  visited : (i : ℕ) → IsVisited l.fn.visits i → IsVisited l.visits i;
}

abbrev pub decreases-loop-frame : goal.decreases-loop-frame
decreases-loop-frame l = remaining l.visits l.stack.items
