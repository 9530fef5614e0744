-- What the bytes of a file lead to, by what a reader tells of them.
use Rattle.std.proofs.Common.{◌≡◌, ℕ, List, Ok, refl}
use Rattle.spec_machine.specs.Project.{Project}
use Rattle.spec_text.specs.Scripts.{Script}
use Rattle.spec_project.specs.Projects.{project_of}
use Rattle.lgx_answer.specs.declared.status.Verdict.TheVariants as verdict
use Rattle.lgx_answer.specs.Plan.{Plan, Say, only}
use Rattle.lgx_answer.specs.Answered.{Call, Answered, LeadsTo}
use Rattle.lgx_answer.proofs.Follow.{says_leads}
use Rattle.lgx_judge.specs.Plans.{on_project, on_script}
use Rattle.lgx_judge.specs.Judged.{IsNoProject, IsNoScript}
use Rattle.lgx_judge.proofs.Follow.{project_refused, project_leads, script_refused}
use Rattle.cmd_run.specs.RunText.{IsRunText}
use Rattle.cmd_run.specs.RunPlan.{script_ran, script_read}

-- what is refused is answered with the line that says why
pub no_script_leads : (accepted : Script → Plan) (bytes line : List ℕ) → IsNoScript bytes line
    → LeadsTo (on_script accepted bytes) (Say verdict.Script (only line))
no_script_leads accepted bytes line why = λ call a.
    says_leads (on_script accepted bytes) verdict.Script line call (script_refused accepted bytes line why) a

pub no_project_leads : (accepted : Project → Plan) (bytes line : List ℕ) → IsNoProject bytes line
    → LeadsTo (on_project accepted bytes) (Say verdict.Project (only line))
no_project_leads accepted bytes line why = λ call a.
    says_leads (on_project accepted bytes) verdict.Project line call (project_refused accepted bytes line why) a

-- an accepted project
pub project_read : (s bytes : List ℕ) (project : Project) → project_of bytes ≡ Ok project → LeadsTo (on_project (script_read s) bytes) (script_read s project)
project_read s bytes project is = project_leads (script_read s) bytes project (script_read s project) is (λ call a. a)

-- what is written of a run is a text of it
pub run_written : (project : Project) (script : Script) (text : List ℕ) (call : Call)
    → IsRunText project script text
    → Answered (Say verdict.Ok (only text)) call → Answered (script_ran project script) call
run_written project script text call is a =
    says_leads (script_ran project script) verdict.Ok text call (refl, is) a
