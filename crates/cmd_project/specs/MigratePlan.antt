-- `migrate P`: a project's file in the newest schema.
use Rattle.std.specs.Prelude.{ℕ, List}
use Rattle.lgx_answer.specs.declared.status.Verdict.TheVariants as verdict
use Rattle.lgx_answer.specs.Plan.{Plan, Say, Read, only}
use Rattle.lgx_project.specs.Migrated.{migrated_text}
use Rattle.lgx_judge.specs.Plans.{on_project}

-- the text is that of the bytes: the project alone doesn't determine it
abbrev pub migrate_judged : List ℕ → Plan
migrate_judged bytes = on_project (λ project. Say verdict.Ok (only (migrated_text bytes))) bytes

-- the file of this name is read, and its newest form is said if it is a project
abbrev pub migrate_plan : List ℕ → Plan
migrate_plan name = Read name migrate_judged
