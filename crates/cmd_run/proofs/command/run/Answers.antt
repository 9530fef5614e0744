use Rattle.std.proofs.Common.{◌≡◌, Ok, refl, sym, ap, ◌∙◌, subst}
use Rattle.spec_project.specs.Projects.{project_of}
use Rattle.lgx_answer.specs.declared.status.Verdict.TheVariants as verdict
use Rattle.lgx_answer.specs.Plan.{Say, only}
use Rattle.lgx_answer.proofs.Follow.{read_on}
use Rattle.lgx_judge.specs.Judged.{IsNoProject}
use Rattle.cmd_run.specs.RunPlan.{script_read}
use Rattle.cmd_run.proofs.Leads.{no_project_leads, project_read}
use Rattle.cmd_run.proofs.command.run.Goals as goal

pub returns-in-Ok-Accepted : goal.returns-in-Ok-Accepted
returns-in-Ok-Accepted g c =
    let bytes = c.in-Ok.bytes.items in
    let project = c.in-Ok-Accepted.project in
    let script = c.args.script.now in
    let came = c.in-Ok.ensures in
    let read = c.in-Ok-Accepted.ensures.accepted _ (ap (λ j. Ok j) c.in-Ok-Accepted.field-0-is) in
    let is : project_of bytes ≡ Ok project = ap project_of (sym c.deref.ensures.value) ∙ read in
    let leads = project_read script bytes project is in
    read_on _ _ _ _ _ _ (script_read script project) _ _ _ _ _ _ refl came.ok came.whole came.failures came.same leads c.run_on.ensures

pub returns-in-Ok-Refused : goal.returns-in-Ok-Refused
returns-in-Ok-Refused g c =
    let bytes = c.in-Ok.bytes.items in
    let line = c.as_slice.result.now in
    let came = c.in-Ok.ensures in
    let told = c.in-Ok-Refused.ensures.refused _ (ap (λ j. Ok j) c.in-Ok-Refused.field-0-is) in
    let shown : IsNoProject c.deref.result.now line = subst (λ l. IsNoProject c.deref.result.now l) (sym c.as_slice.ensures) told in
    let why : IsNoProject bytes line = subst (λ b. IsNoProject b line) c.deref.ensures.value shown in
    let leads = no_project_leads (script_read c.args.script.now) bytes line why in
    read_on _ _ _ _ _ _ (Say verdict.Project (only line)) _ _ _ _ _ _ refl came.ok came.whole came.failures came.same leads c.say.ensures
