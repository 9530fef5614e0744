-- The plan of `trace P J`: the trace of a journal.
use Rattle.std.specs.Prelude.{ℕ, List}
use Rattle.spec_machine.specs.declared.event.Event.{Event}
use Rattle.spec_machine.specs.Project.{Project}
use Rattle.spec_schedule.specs.TraceView.{view}
use Rattle.lgx_answer.specs.declared.status.Verdict.TheVariants as verdict
use Rattle.lgx_answer.specs.Plan.{Plan, Say, Read, only}
use Rattle.lgx_judge.specs.Plans.{on_project, on_journal}
use Rattle.lgx_audit.specs.TraceText.{text_of}

-- the lines of all that is seen of a journal's events, and the line `end`
abbrev pub trace_text : Project → List Event → List ℕ
trace_text project journal = text_of (view project journal)

-- what the bytes of a journal lead to on a project: its trace
abbrev pub journal_read : Project → List ℕ → Plan
journal_read project bytes = on_journal (λ journal. Say verdict.Ok (only (trace_text project journal))) bytes

-- what the bytes of a project lead to: the journal is read
abbrev pub journal_next : List ℕ → List ℕ → Plan
journal_next j bytes = on_project (λ project. Read j (journal_read project)) bytes

abbrev pub trace_plan : List ℕ → List ℕ → Plan
trace_plan p j = Read p (journal_next j)
