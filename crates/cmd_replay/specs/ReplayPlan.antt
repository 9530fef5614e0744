-- The plan of `replay P J`.
use Rattle.std.specs.Prelude.{ℕ, List}
use Rattle.spec_machine.specs.Project.{Project}
use Rattle.spec_text.specs.ReportText.{report}
use Rattle.lgx_answer.specs.declared.status.Verdict.TheVariants as verdict
use Rattle.lgx_answer.specs.Plan.{Plan, Say, Read, only}
use Rattle.lgx_judge.specs.Plans.{on_project, on_journal}

-- what the bytes of a journal lead to on a project: the report
abbrev pub journal_read : Project → List ℕ → Plan
journal_read project bytes = on_journal (λ journal. Say verdict.Ok (only (report project journal))) bytes

-- what the bytes of a project lead to: the journal is read
abbrev pub project_read : List ℕ → List ℕ → Plan
project_read j bytes = on_project (λ project. Read j (journal_read project)) bytes

abbrev pub replay_plan : List ℕ → List ℕ → Plan
replay_plan p j = Read p (project_read j)
