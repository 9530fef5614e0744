use Rattle.std.proofs.Common.{◌≡◌, length, get_or, ap, arith}
use Rattle.std.proofs.lemmas.List.Sums.{sum_by_more, sum_by_more_le}
use Rattle.lgx_edit.specs.declared.texts.RoutineText.{RoutineText}
use Rattle.cmd_project.proofs.check.rungs_of.Goals as goal

pub overflow_add-count : goal.overflow_add-count
overflow_add-count c =
    let counted = (λ (r : RoutineText). length r.source) in
    let item = c.routine-item.result in
    let within = sum_by_more_le counted c.args.routines.now c.loop-routine.routine-index item c.loop-routine-test.true in
    let here : counted item ≡ counted (get_or c.args.routines.now c.loop-routine.routine-index item) = ap counted c.routine-item.is in
    omega (arith, within, here)

pub loop-routine-preserved : goal.loop-routine-preserved
loop-routine-preserved c =
    let counted = (λ (r : RoutineText). length r.source) in
    let item = c.routine-item.result in
    let more = sum_by_more counted c.args.routines.now c.loop-routine.routine-index item c.loop-routine-test.true in
    let here : counted item ≡ counted (get_or c.args.routines.now c.loop-routine.routine-index item) = ap counted c.routine-item.is in
    omega (arith, more, here)
