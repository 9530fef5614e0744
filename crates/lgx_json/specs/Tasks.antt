-- The fields of a task, part by part.
use Rattle.std.specs.Prelude.{Bool, codes}
use Rattle.spec_machine.specs.declared.limits.TheConstants.{MAX_PERIOD}
use Rattle.spec_project.specs.declared.described.TaskWord.{TaskWord}
use Rattle.spec_project.specs.Faults.{or_else}
use Rattle.spec_project.specs.Judges.{Judge, needed, optional, name, whole, field, fields_of}
use Rattle.spec_project.specs.Shape.{inhibited_fields, period_fields, priority_fields, program_names}

-- all but its kind
unfoldable pub rest_of_task : Bool → TaskWord → Judge
rest_of_task newest word d =
    or_else (field (needed (codes "name") name) d)
    (or_else (fields_of (priority_fields word) d)
    (or_else (fields_of (period_fields word) d)
    (or_else (field (optional (codes "watchdog") (whole 1 MAX_PERIOD)) d)
    (or_else (fields_of (inhibited_fields newest) d)
    (field (needed (codes "programs") program_names) d)))))
