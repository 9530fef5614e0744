use Rattle.std.proofs.Common.{◌≡◌, length, get_or, ap, arith}
use Rattle.std.proofs.lemmas.List.Sums.{sum_by_more, sum_by_more_le}
use Rattle.lgx_edit.specs.declared.texts.ProgramText.{ProgramText}
use Rattle.cmd_project.proofs.check.routine_count.Goals as goal

pub overflow_add-count : goal.overflow_add-count
overflow_add-count c =
    let counted = (λ (p : ProgramText). length p.routines) in
    let item = c.program-item.result in
    let within = sum_by_more_le counted c.args.programs.now c.loop-program.program-index item c.loop-program-test.true in
    let here : counted item ≡ counted (get_or c.args.programs.now c.loop-program.program-index item) = ap counted c.program-item.is in
    omega (arith, within, here)

pub loop-program-preserved : goal.loop-program-preserved
loop-program-preserved c =
    let counted = (λ (p : ProgramText). length p.routines) in
    let item = c.program-item.result in
    let more = sum_by_more counted c.args.programs.now c.loop-program.program-index item c.loop-program-test.true in
    let here : counted item ≡ counted (get_or c.args.programs.now c.loop-program.program-index item) = ap counted c.program-item.is in
    omega (arith, more, here)
