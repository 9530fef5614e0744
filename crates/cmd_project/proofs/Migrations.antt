-- What is said of a file that is carried to the newest schema, or refused.
use Rattle.std.proofs.Common.{◌≡◌, ℕ, List, Result, Ok, Err, refl, ap, ◌∙◌}
use Rattle.spec_machine.specs.Project.{Project}
use Rattle.spec_project.specs.declared.fault.ProjectFault.{ProjectFault}
use Rattle.spec_project.specs.Projects.{project_of}
use Rattle.lgx_project.specs.Migrated.{migrated, migrated_text, unless_no_project}
use Rattle.lgx_answer.specs.declared.status.Verdict.TheVariants as verdict
use Rattle.lgx_answer.specs.Plan.{Say, Says, only}
use Rattle.lgx_judge.specs.CauseLines.{project_cause_line}
use Rattle.lgx_judge.specs.Plans.{of_project}
use Rattle.cmd_project.specs.MigratePlan.{migrate_judged}

pub migrated_said : (bytes text : List ℕ) → migrated bytes ≡ Ok text → Says (migrate_judged bytes) verdict.Ok text
unfolding migrated
migrated_said bytes text is = by_project (project_of bytes) is
  where
    by_project : (r : Result Project ProjectFault) → unless_no_project r (migrated_text bytes) ≡ Ok text
        → Says (of_project (λ project. Say verdict.Ok (only (migrated_text bytes))) r) verdict.Ok text
    by_project (Ok project) is = let same : text ≡ migrated_text bytes = cc in (refl, same)
    by_project (Err fault) is = absurd (cc)

pub refusal_said : (bytes line : List ℕ) (fault : ProjectFault)
    → migrated bytes ≡ Err fault → line ≡ project_cause_line fault → Says (migrate_judged bytes) verdict.Project line
unfolding migrated
refusal_said bytes line fault is told = by_project (project_of bytes) is
  where
    by_project : (r : Result Project ProjectFault) → unless_no_project r (migrated_text bytes) ≡ Err fault
        → Says (of_project (λ project. Say verdict.Ok (only (migrated_text bytes))) r) verdict.Project line
    by_project (Ok project) is = absurd (cc)
    by_project (Err other) is = let same : fault ≡ other = cc in (refl, told ∙ ap project_cause_line same)
