use Rattle.std.proofs.Common.{◌≡◌, ◌<◌, ℕ, []}
use Rattle.lgx_types.specs.Sizing.{IsSizing, IsVisited}
use Rattle.lgx_types.proofs.sizing.size_each.Given as goal

abbrev pub invariant-loop-i : goal.invariant-loop-i
invariant-loop-i l = record {
  sizing : IsSizing l.resolved l.visits [];
  stack : l.stack.items ≡ [];
  visited : (j : ℕ) → j < l.i → IsVisited l.visits j;
}
