-- A lane more is its actions more.
use Rattle.std.proofs.Common.{◌≡◌, List, length, get_or, ap, arith}
use Rattle.std.proofs.lemmas.List.Sums.{sum_by_more, sum_by_more_le}
use Rattle.spec_text.specs.declared.script.Timed.{Timed}
use Rattle.lgx_shared.proofs.plan.action_count.Goals as goal

pub overflow_add-count : goal.overflow_add-count
overflow_add-count c =
    let counted = (λ (x : List Timed). length x) in
    let item = c.lane-item.result in
    let within = sum_by_more_le counted c.args.lanes.now c.loop-lane.lane-index item c.loop-lane-test.true in
    let here : counted item ≡ counted (get_or c.args.lanes.now c.loop-lane.lane-index item) = ap counted c.lane-item.is in
    omega (arith, within, here)

pub loop-lane-preserved : goal.loop-lane-preserved
loop-lane-preserved c =
    let counted = (λ (x : List Timed). length x) in
    let item = c.lane-item.result in
    let more = sum_by_more counted c.args.lanes.now c.loop-lane.lane-index item c.loop-lane-test.true in
    let here : counted item ≡ counted (get_or c.args.lanes.now c.loop-lane.lane-index item) = ap counted c.lane-item.is in
    omega (arith, more, here)
