-- A valid project has what is presumed of the tasks.
use Rattle.std.proofs.Common.{◌≡◌, zero, suc, true, List, [], ◌∷◌, length, sym, ◌∙◌, arith, nat_le}
use Rattle.std.specs.Prelude.{nat_lt, ◌&&◌}
use Rattle.std.specs.List.{list_all}
use Rattle.std.proofs.lemmas.Bool.{and_parts, ltb-true, leb-true}
use Rattle.spec_base.specs.declared.limits.TheConstants.{MAX_TASKS}
use Rattle.spec_tables.specs.declared.task.TaskKind.{TaskKind}
use Rattle.spec_tables.specs.declared.task.TaskKind.TheVariants.{Continuous, Periodic, Event}
use Rattle.spec_tables.specs.declared.task.TaskDef.{TaskDef}
use Rattle.spec_machine.specs.declared.limits.TheConstants.{MAX_PERIOD}
use Rattle.spec_machine.specs.Project.{Project}
use Rattle.spec_machine.specs.ValidProject.{IsValidProject, is_within, has_priority, has_period, is_proper_task}
use Rattle.spec_legal.proofs.CountedLists.{audit_length}
use Rattle.lgx_laws.specs.Laws.{roster_of}
use Rattle.lgx_laws.specs.Kept.{IsPeriod, HavePeriods, IsProper}

period_of : (kind : TaskKind) → has_period kind ≡ true → IsPeriod kind
period_of (Periodic n) h = ltb-true 0 n (and_parts (nat_lt 0 n) (nat_le n MAX_PERIOD) h).0
period_of Continuous h = tt
period_of Event h = tt

periods_of : (tasks : List TaskDef) → list_all is_proper_task tasks ≡ true → HavePeriods tasks
periods_of [] h t l = absurd (omega arith)
periods_of (d ∷ ds) h zero l =
    let one = (and_parts (is_proper_task d) (list_all is_proper_task ds) h).0 in
    let two = and_parts (has_priority d.kind d.priority && has_period d.kind) (is_within d.watchdog MAX_PERIOD) one in
    period_of d.kind (and_parts (has_priority d.kind d.priority) (has_period d.kind) two.0).1
periods_of (d ∷ ds) h (suc t) l = periods_of ds (and_parts (is_proper_task d) (list_all is_proper_task ds) h).1 t (omega arith)

pub proper_of : (p : Project) → IsValidProject p → IsProper (roster_of p)
proper_of p valid =
    let lists = valid.task_lists.lists in
    let long = audit_length p.tasks p.schedule lists in
    record {
      tasks = sym long;
      lists = lists ∙ sym long;
      few = leb-true (length p.tasks) MAX_TASKS (and_parts (nat_lt 0 (length p.tasks)) (nat_le (length p.tasks) MAX_TASKS) valid.limits.tasks).1;
      periods = periods_of p.tasks valid.tasks;
    }
