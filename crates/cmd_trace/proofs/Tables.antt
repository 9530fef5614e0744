-- The table of a project, task by task.
use Rattle.std.proofs.Common.{◌≡◌, ℕ, zero, suc, ◌+◌, ◌<◌, ◌≤◌, List, [], ◌∷◌, ◌++◌, length, take, refl, sym, ◌∙◌, ap, arith}
use Rattle.std.specs.Prelude.{slice_index_or}
use Rattle.std.proofs.lemmas.List.{take_more, take_all}
use Rattle.spec_tables.specs.declared.task.TaskDef.{TaskDef}
use Rattle.spec_tables.specs.Tasks.{no_task as no_def}
use Rattle.spec_schedule.specs.declared.trace.AuditTask.{AuditTask}
use Rattle.spec_schedule.specs.Legal.{no_task}
use Rattle.spec_schedule.specs.TraceView.{audit_task, audit_tasks}
use Rattle.spec_legal.proofs.CountedLists.{audit_length, audit_at}

pub one_more_task : (tasks : List TaskDef) (schedule : List (List ℕ)) (t : ℕ) (list : List AuditTask) (x : AuditTask) → length schedule ≡ length tasks → t < length tasks → list ≡ take t (audit_tasks tasks schedule) → x ≡ audit_task (slice_index_or tasks t no_def) (slice_index_or schedule t []) → list ++ x ∷ [] ≡ take (t + 1) (audit_tasks tasks schedule)
one_more_task tasks schedule t list x same l is made =
    let all = audit_tasks tasks schedule in
    let long = audit_length tasks schedule same in
    ap (λ (xs : List AuditTask). xs ++ x ∷ []) is
    ∙ (ap (λ (y : AuditTask). take t all ++ y ∷ []) (made ∙ sym (audit_at tasks schedule t same l)) ∙ sym (take_more all t no_task (omega arith)))

pub all_tasks : (tasks : List TaskDef) (schedule : List (List ℕ)) (t : ℕ) (list : List AuditTask) → length schedule ≡ length tasks → length tasks ≤ t → list ≡ take t (audit_tasks tasks schedule) → list ≡ audit_tasks tasks schedule
all_tasks tasks schedule t list same l is = let long = audit_length tasks schedule same in is ∙ take_all t (audit_tasks tasks schedule) (omega arith)

any_default : {A : Type 0} (xs : List A) (i : ℕ) (d e : A) → i < length xs → slice_index_or xs i d ≡ slice_index_or xs i e
any_default [] i d e h = absurd (omega arith)
any_default (x ∷ xs) zero d e h = refl
any_default (x ∷ xs) (suc i) d e h = any_default xs i d e (omega arith)

-- what is made of the task and the list that a loop is at
pub made_task : (tasks : List TaskDef) (schedule : List (List ℕ)) (t : ℕ) (d : TaskDef) (e : List ℕ) (ns : List ℕ) (x : AuditTask) → length schedule ≡ length tasks → t < length tasks → ns ≡ slice_index_or schedule t e → x ≡ audit_task (slice_index_or tasks t d) ns → x ≡ audit_task (slice_index_or tasks t no_def) (slice_index_or schedule t [])
made_task tasks schedule t d e ns x same l is made =
    made
    ∙ (ap (λ (y : TaskDef). audit_task y ns) (any_default tasks t d no_def l)
    ∙ ap (λ (ms : List ℕ). audit_task (slice_index_or tasks t no_def) ms) (is ∙ any_default schedule t e [] (omega arith)))
