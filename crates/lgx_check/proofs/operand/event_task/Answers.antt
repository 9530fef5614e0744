use Rattle.std.proofs.Common.{◌≡◌, ◌≤◌, true, length, get_or, ap, sym, ◌∙◌, arith}
use Rattle.std.specs.Prelude.{◌&&◌}
use Rattle.lgx_num.specs.Name.{same}
use Rattle.spec_language.specs.declared.names.TaskName.{TaskName}
use Rattle.lgx_check.proofs.Names.{position_here, position_none}
use Rattle.lgx_check.proofs.operand.event_task.Goals as goal

pub returns-then-is_event_task : goal.returns-then-is_event_task
returns-then-is_event_task c =
    let passes : ((get_or c.args.tasks.now c.loop-number.number c.index-tasks-number.result).event && same (get_or c.args.tasks.now c.loop-number.number c.index-tasks-number.result).name c.args.text.now) ≡ true =
    ap (λ (t : TaskName). t.event && same t.name c.args.text.now) (sym c.index-tasks-number.is) ∙ sym c.is_event_task.ensures ∙ c.if-is_event_task.true in
    position_here (λ (t : TaskName). t.event && same t.name c.args.text.now) c.args.tasks.now c.loop-number.number c.index-tasks-number.result c.loop-number-test.true c.loop-number.invariant passes

pub returns : goal.returns
returns c =
    let all : length c.args.tasks.now ≤ c.loop-number.number = omega arith in
    position_none (λ (t : TaskName). t.event && same t.name c.args.text.now) c.args.tasks.now c.loop-number.number all c.loop-number.invariant
