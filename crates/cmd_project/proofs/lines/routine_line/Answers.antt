use Rattle.std.proofs.Common.{◌≡◌, ◌+◌, ◌-◌, ◌<◌, ◌≤◌, ◌++◌, length, get_or, sym, ap, ◌∙◌, arith}
use Rattle.lgx_edit.specs.Texts.{routine_of}
use Rattle.cmd_project.specs.TextLeft.{routine_left}
use Rattle.cmd_project.proofs.TextLefts.{rung_of_routine}
use Rattle.cmd_project.proofs.lines.routine_line.Goals as goal

pub returns-clause-more : goal.returns-clause-more
returns-clause-more c = λ made.
    let next = c.args.next.now in
    let rung = c.index-rungs-next.result in
    let some : 0 < next = omega (arith, c.if-next-eq0.false) in
    let within : next ≤ length c.args.routine.now.source = omega (arith, c.if-next-rungs.false, ap (λ l. length l) c.as_slice-rungs.ensures) in
    let is : rung ≡ get_or c.args.routine.now.source (next - 1) rung = c.index-rungs-next.is ∙ ap (λ l. get_or l (next - 1) rung) c.as_slice-rungs.ensures in
    rung_of_routine c.args.program.now (routine_of c.args.routine.now) next rung some within is
    ∙ ap (λ l. l ++ routine_left c.args.program.now (next + 1) (routine_of c.args.routine.now)) (sym c.in_ok-rung_line.ensures)
