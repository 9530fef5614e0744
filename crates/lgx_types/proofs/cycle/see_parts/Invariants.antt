use Rattle.std.proofs.Common.{◌≡◌, ◌≤◌, ℕ, length}
use Rattle.std.specs.Prelude.{◌⊎◌}
use Rattle.lgx_types.specs.Cycles.{Reaches, Keeps, IsSearch, to_see}
use Rattle.lgx_types.proofs.Seen.{SeenTo}
use Rattle.lgx_types.proofs.cycle.see_parts.Given as goal

abbrev pub invariant-loop-k : goal.invariant-loop-k
invariant-loop-k l = record {
  many : length l.seen ≡ length l.resolved;
  search : (i : ℕ) → IsSearch l.resolved i l.j l.fn.seen l.fn.waiting.items → (i ≡ l.j) ⊎ Reaches l.resolved i l.j → IsSearch l.resolved i l.j l.seen l.waiting.items;
  parts : SeenTo l.types l.seen l.k;
  kept : Keeps l.fn.seen l.seen;
  less : to_see l.seen l.waiting.items ≤ to_see l.fn.seen l.fn.waiting.items;
}
