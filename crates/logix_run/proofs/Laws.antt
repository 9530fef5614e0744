-- Every text that is a project is one whose runs keep the laws, and whose tags only their writers change.
use Rattle.std.proofs.Common.{◌≡◌, ℕ, List, Result, Ok, Err, IfOk, refl}
use Rattle.spec_machine.specs.Project.{Project}
use Rattle.spec_project.specs.declared.fault.ProjectFault.{ProjectFault}
use Rattle.spec_project.specs.Projects.{project_of}
use Rattle.spec_valid.proofs.Given.{given_is_valid}
use Rattle.spec_laws.proofs.Lawful.{runs_are_lawful}
use Rattle.lgx_answer.specs.Plan.{Plan}
use Rattle.lgx_answer.specs.Answered.{Call, Answered}
use Rattle.lgx_answer.proofs.Follows.{follows_plan}
use Rattle.logix_run.specs.Answers.{KeepsLaws, MakeLawful, IsAnswered}

given_lawful : (bytes : List ℕ) → MakeLawful bytes
given_lawful bytes = go (project_of bytes) refl
  where
    go : (r : Result Project ProjectFault) → project_of bytes ≡ r → IfOk r KeepsLaws
    go (Err fault) is = tt
    go (Ok p) is =
        let valid = given_is_valid bytes p is in
        record { valid = valid; lawful = runs_are_lawful p valid }

pub answered : (plan : Plan) (call : Call) → Answered plan call → IsAnswered plan call
answered plan call a = record { follows = follows_plan plan call a; laws = given_lawful }
