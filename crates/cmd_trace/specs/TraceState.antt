-- The command `trace P J` under way.
use Rattle.std.specs.Prelude.{ℕ, List}
use Rattle.lgx_answer.specs.Plan.{Plan}
use Rattle.cmd_trace.specs.declared.trace_command.Trace.{Trace}
use Rattle.cmd_trace.specs.declared.trace_command.Trace.TheVariants.{Both, OnProject}
use Rattle.cmd_trace.specs.TracePlan.{journal_next, journal_read}

-- the file that is read next
abbrev pub trace_file : Trace → List ℕ
trace_file (Both project journal) = project.now
trace_file (OnProject read journal) = journal.now

-- what its bytes lead to
abbrev pub trace_state : Trace → List ℕ → Plan
trace_state (Both project journal) bytes = journal_next journal.now bytes
trace_state (OnProject read journal) bytes = journal_read read bytes

-- how many files are read after it
abbrev pub trace_left : Trace → ℕ
trace_left (Both project journal) = 1
trace_left (OnProject read journal) = 0
