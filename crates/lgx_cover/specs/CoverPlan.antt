-- The plan of `logix_cover P J`: which files it reads, and what it says of their contents.
use Rattle.std.specs.Prelude.{ℕ, List, [], ◌∷◌, codes}
use Rattle.spec_machine.specs.Project.{Project}
use Rattle.lgx_answer.specs.declared.status.Verdict.TheVariants as verdict
use Rattle.lgx_answer.specs.Plan.{Plan, Say, Read, only}
use Rattle.lgx_judge.specs.Plans.{on_project, on_journal}
use Rattle.lgx_cover.specs.Texts.{cover_text}

-- what the bytes of a journal lead to on a project: the counts
abbrev pub journal_read : Project → List ℕ → Plan
journal_read project bytes = on_journal (λ journal. Say verdict.Ok (only (cover_text project journal))) bytes

-- what the bytes of a project lead to: the journal is read
abbrev pub project_read : List ℕ → List ℕ → Plan
project_read j bytes = on_project (λ project. Read j (journal_read project)) bytes

abbrev pub cover_plan : List ℕ → List ℕ → Plan
cover_plan p j = Read p (project_read j)

abbrev pub cover_usage : List ℕ
cover_usage = codes "usage: logix_cover P J\n"

-- by the words of the command line, which are the names of the two files
abbrev pub plan_of : List (List ℕ) → Plan
plan_of (p ∷ j ∷ []) = cover_plan p j
plan_of _ = Say verdict.Usage (only cover_usage)
