-- What the bytes of the three files lead to, by what a reader tells of them.
use Rattle.std.proofs.Common.{◌≡◌, ◌++◌, ℕ, List, Result, refl, ap, sym, ◌∙◌, subst}
use Rattle.spec_machine.specs.Project.{Project}
use Rattle.spec_project.specs.declared.fault.ProjectFault.{ProjectFault}
use Rattle.spec_link.specs.declared.script.LinkFault.{LinkFault}
use Rattle.spec_link.specs.declared.script.LinkScript.{LinkScript}
use Rattle.lgx_answer.specs.declared.status.Verdict.{Verdict}
use Rattle.lgx_answer.specs.declared.status.Verdict.TheVariants as verdict
use Rattle.lgx_answer.specs.Plan.{Plan, Says}
use Rattle.lgx_judge.specs.Judged.{IsNoProject}
use Rattle.cmd_link.specs.LinkCauses.{IsNoController, IsNoLink}
use Rattle.cmd_link.specs.LinkPlan.{of_controller, on_controller, of_link, script_read}

-- ---- the project of a controller

-- the line of its project, with its letter before it
pub lettered_refused : (letter bytes refusal line : List ℕ) → IsNoProject bytes refusal → line ≡ letter ++ refusal → IsNoController letter bytes line
lettered_refused letter bytes refusal line why is =
    record { fault = why.fault; refused = why.refused; line_is = is ∙ ap (λ t. letter ++ t) why.line_is }

pub says_no_controller : (letter : List ℕ) (accepted : Project → Plan) (shown bytes refusal line : List ℕ) (said : Verdict)
    → IsNoController letter shown refusal → shown ≡ bytes → verdict.Project ≡ said → refusal ≡ line
    → Says (on_controller letter accepted bytes) said line
says_no_controller letter accepted shown bytes refusal line said why same_bytes same_verdict same_line =
    let P : Result Project ProjectFault → Type 0 = λ r. Says (of_controller letter accepted r) verdict.Project refusal in
    let says : Says (on_controller letter accepted shown) verdict.Project refusal = subst P (sym why.refused) (refl, why.line_is) in
    let Q : List ℕ → Type 0 = λ bs. Says (on_controller letter accepted bs) said line in
    let R : Verdict → Type 0 = λ v. Says (on_controller letter accepted shown) v line in
    let S : List ℕ → Type 0 = λ t. Says (on_controller letter accepted shown) verdict.Project t in
    subst Q same_bytes (subst R same_verdict (subst S same_line says))

-- ---- the link script

pub says_no_link : (a b : Project) (shown bytes refusal line : List ℕ) (said : Verdict)
    → IsNoLink a b shown refusal → shown ≡ bytes → verdict.Script ≡ said → refusal ≡ line
    → Says (script_read a b bytes) said line
says_no_link a b shown bytes refusal line said why same_bytes same_verdict same_line =
    let P : Result LinkScript LinkFault → Type 0 = λ r. Says (of_link a b r) verdict.Script refusal in
    let says : Says (script_read a b shown) verdict.Script refusal = subst P (sym why.refused) (refl, why.line_is) in
    let Q : List ℕ → Type 0 = λ bs. Says (script_read a b bs) said line in
    let R : Verdict → Type 0 = λ v. Says (script_read a b shown) v line in
    let S : List ℕ → Type 0 = λ t. Says (script_read a b shown) verdict.Script t in
    subst Q same_bytes (subst R same_verdict (subst S same_line says))
