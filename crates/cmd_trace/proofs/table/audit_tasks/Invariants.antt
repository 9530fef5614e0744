use Rattle.std.proofs.Common.{◌≡◌, take}
use Rattle.spec_schedule.specs.TraceView.{audit_tasks}
use Rattle.cmd_trace.proofs.table.audit_tasks.Given as goal

abbrev pub invariant-loop-t : goal.invariant-loop-t
invariant-loop-t l = l.list.items ≡ take l.t (audit_tasks l.tasks l.schedule)
