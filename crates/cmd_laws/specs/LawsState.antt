-- The program on its way.
use Rattle.std.specs.Prelude.{ℕ, List}
use Rattle.lgx_answer.specs.Plan.{Plan}
use Rattle.lgx_laws.specs.Laws.{roster_of}
use Rattle.cmd_laws.specs.declared.command.Laws.{Laws}
use Rattle.cmd_laws.specs.declared.command.Laws.TheVariants.{Both, OnProject}
use Rattle.cmd_laws.specs.LawsPlan.{trace_next, on_trace}

-- the file that is read next
abbrev pub laws_file : Laws → List ℕ
laws_file (Both project trace) = project.now
laws_file (OnProject project trace) = trace.now

-- what its bytes lead to
abbrev pub laws_next : Laws → List ℕ → Plan
laws_next (Both project trace) bytes = trace_next trace.now bytes
laws_next (OnProject project trace) bytes = on_trace (roster_of project) bytes

-- how many files are read after it
abbrev pub laws_left : Laws → ℕ
laws_left (Both project trace) = 1
laws_left (OnProject project trace) = 0
