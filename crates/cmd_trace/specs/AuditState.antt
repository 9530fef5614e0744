-- The command `audit P T` under way.
use Rattle.std.specs.Prelude.{ℕ, List}
use Rattle.lgx_answer.specs.Plan.{Plan}
use Rattle.cmd_trace.specs.declared.audit_command.Audit.{Audit}
use Rattle.cmd_trace.specs.declared.audit_command.Audit.TheVariants.{Both, OnTable}
use Rattle.cmd_trace.specs.AuditPlan.{trace_next, on_trace}

-- the file that is read next
abbrev pub audit_file : Audit → List ℕ
audit_file (Both project trace) = project.now
audit_file (OnTable table trace) = trace.now

-- what its bytes lead to
abbrev pub audit_next : Audit → List ℕ → Plan
audit_next (Both project trace) bytes = trace_next trace.now bytes
audit_next (OnTable table trace) bytes = on_trace table bytes

-- how many files are read after it
abbrev pub audit_left : Audit → ℕ
audit_left (Both project trace) = 1
audit_left (OnTable table trace) = 0
