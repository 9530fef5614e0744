use Rattle.std.proofs.Common.{◌≡◌, List, length, take}
use Rattle.std.specs.Prelude.{sum_by}
use Rattle.spec_text.specs.declared.script.Timed.{Timed}
use Rattle.lgx_shared.proofs.plan.action_count.Given as goal

abbrev pub invariant-loop-lane : goal.invariant-loop-lane
invariant-loop-lane l = l.count ≡ sum_by (λ (x : List Timed). length x) (take l.lane-index l.lanes)
