use Rattle.std.proofs.Common.{◌<◌, List, length, sym, ap, subst}
use Rattle.spec_schedule.specs.declared.trace.AuditTask.{AuditTask}
use Rattle.spec_schedule.specs.Counting.{stepping}
use Rattle.lgx_audit.proofs.priority.keeps_priority.Goals as goal

pub may_step-requires-clause-within : goal.may_step-requires-clause-within
may_step-requires-clause-within c = subst (λ (xs : List AuditTask). c.in-Began.task < length xs) (sym c.as_slice-tasks.ensures) (c.requires.within c.in-Began.task (ap stepping c.in-Began.is))

pub may_step-requires-in-Step-clause-within : goal.may_step-requires-in-Step-clause-within
may_step-requires-in-Step-clause-within c = subst (λ (xs : List AuditTask). c.in-Step.task < length xs) (sym c.as_slice-tasks.ensures) (c.requires.within c.in-Step.task (ap stepping c.in-Step.is))

pub may_step-requires-in-Left-clause-within : goal.may_step-requires-in-Left-clause-within
may_step-requires-in-Left-clause-within c = subst (λ (xs : List AuditTask). c.in-Left.task < length xs) (sym c.as_slice-tasks.ensures) (c.requires.within c.in-Left.task (ap stepping c.in-Left.is))
