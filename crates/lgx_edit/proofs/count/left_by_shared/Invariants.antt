-- What is left after all rungs is what is left now after the others.
use Rattle.std.proofs.Common.{◌≡◌, ◌-◌, drop}
use Rattle.std.specs.Prelude.{sum_by}
use Rattle.lgx_edit.specs.Counting.{rung_count}
use Rattle.lgx_edit.specs.Shared.{sources}
use Rattle.lgx_edit.proofs.count.left_by_shared.Given as goal

abbrev pub invariant-loop-rung : goal.invariant-loop-rung
invariant-loop-rung l = l.left - sum_by rung_count (sources (drop l.rung-index l.rungs)) ≡ l.fn.left - sum_by rung_count (sources l.rungs)
