-- The roster of a project by its parts.
use Rattle.std.proofs.Common.{◌≡◌, ℕ, List, ◌∙◌, ap}
use Rattle.spec_tables.specs.declared.task.TaskDef.{TaskDef}
use Rattle.spec_machine.specs.Project.{Project}
use Rattle.spec_schedule.specs.declared.trace.Table.{Table}
use Rattle.spec_schedule.specs.TraceView.{table_of}
use Rattle.lgx_laws.specs.Laws.{Roster, roster_of}

abbrev pub roster : Table → List TaskDef → List (List ℕ) → Roster
roster table tasks schedule = record { table = table; tasks = tasks; schedule = schedule }

pub same_roster : (p : Project) (table : Table) (tasks : List TaskDef) (schedule : List (List ℕ)) → table ≡ table_of p → tasks ≡ p.tasks → schedule ≡ p.schedule → roster table tasks schedule ≡ roster_of p
same_roster p table tasks schedule a b c =
    ap (λ (t : Table). roster t tasks schedule) a
    ∙ (ap (λ (ds : List TaskDef). roster (table_of p) ds schedule) b ∙ ap (λ (ss : List (List ℕ)). roster (table_of p) p.tasks ss) c)
