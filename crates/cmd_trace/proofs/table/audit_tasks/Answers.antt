use Rattle.std.proofs.Common.{◌∙◌}
use Rattle.cmd_trace.proofs.Tables.{one_more_task, made_task}
use Rattle.cmd_trace.proofs.table.audit_tasks.Goals as goal

pub loop-t-preserved : goal.loop-t-preserved
loop-t-preserved c =
    c.in_ok-push.ensures.items
    ∙ one_more_task c.args.tasks.now c.args.schedule.now c.loop-t.t c.loop-t.list.items c.audit_task.result c.requires.lists c.loop-t-test.true c.loop-t.invariant
    (made_task c.args.tasks.now c.args.schedule.now c.loop-t.t _ _ c.index-schedule-t.result c.audit_task.result c.requires.lists c.loop-t-test.true c.index-schedule-t.is c.audit_task.ensures)
