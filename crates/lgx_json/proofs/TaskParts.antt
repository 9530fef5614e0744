-- The judging of a task, part by part.
use Rattle.std.proofs.Common.{◌≡◌, Bool, [], ◌∷◌, ◌++◌, Some, None, codes, refl}
use Rattle.serde_json.specs.Data.{Data}
use Rattle.spec_base.proofs.Options.{or_none}
use Rattle.spec_machine.specs.declared.limits.TheConstants.{MAX_PERIOD}
use Rattle.spec_project.specs.declared.described.TaskWord.{TaskWord}
use Rattle.spec_project.specs.declared.fault.ProjectFault.{ProjectFault}
use Rattle.spec_project.specs.Judges.{any_object, field, fields_of, keys_of, needed, only_keys, optional, whole}
use Rattle.spec_project.specs.Shape.{inhibited_fields, kind_field, period_fields, priority_fields, program_names, task, task_fields, word_at}
use Rattle.spec_project.proofs.Fields.{fields_of_groups}
use Rattle.lgx_json.specs.Tasks.{rest_of_task}

fields_by_parts : (newest : Bool) (word : TaskWord) (d : Data) → field kind_field d ≡ None → fields_of (task_fields newest word) d ≡ rest_of_task newest word d
unfolding rest_of_task
fields_by_parts newest word d k =
    let last = needed (codes "programs") program_names ∷ [] in
    let marked = inhibited_fields newest ++ last in
    let guarded = (optional (codes "watchdog") (whole 1 MAX_PERIOD) ∷ []) ++ marked in
    rw (k, fields_of_groups (priority_fields word) (period_fields word ++ guarded) d, fields_of_groups (period_fields word) guarded d, fields_of_groups (inhibited_fields newest) last d, or_none (field (needed (codes "programs") program_names) d)) refl

pub task_refused : (newest : Bool) (word : TaskWord) (d : Data) (f : ProjectFault) → word_at d ≡ word → any_object d ≡ None → field kind_field d ≡ None → only_keys (keys_of (task_fields newest word)) d ≡ Some f → task newest d ≡ Some f
unfolding task
task_refused newest word d f is o k e = rw (is, o, k, e) refl

pub task_by_parts : (newest : Bool) (word : TaskWord) (d : Data) → word_at d ≡ word → any_object d ≡ None → field kind_field d ≡ None → only_keys (keys_of (task_fields newest word)) d ≡ None → task newest d ≡ rest_of_task newest word d
unfolding task
task_by_parts newest word d is o k e = rw (is, o, e, fields_by_parts newest word d k, k) refl
