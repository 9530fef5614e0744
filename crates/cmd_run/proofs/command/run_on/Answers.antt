use Rattle.std.proofs.Common.{Ok, refl, sym, ap, subst}
use Rattle.lgx_answer.specs.declared.status.Verdict.TheVariants as verdict
use Rattle.lgx_answer.specs.Plan.{Say, only}
use Rattle.lgx_answer.proofs.Follow.{read_on}
use Rattle.lgx_judge.specs.Judged.{IsNoScript}
use Rattle.cmd_run.specs.RunPlan.{script_ran}
use Rattle.cmd_run.proofs.Leads.{no_script_leads}
use Rattle.cmd_run.proofs.command.run_on.Goals as goal

pub returns-in-Ok-Refused : goal.returns-in-Ok-Refused
returns-in-Ok-Refused g c =
    let bytes = c.in-Ok.bytes.items in
    let line = c.as_slice.result.now in
    let came = c.in-Ok.ensures in
    let told = c.in-Ok-Refused.ensures.refused _ (ap (λ j. Ok j) c.in-Ok-Refused.field-0-is) in
    let shown : IsNoScript c.deref.result.now line = subst (λ l. IsNoScript c.deref.result.now l) (sym c.as_slice.ensures) told in
    let why : IsNoScript bytes line = subst (λ b. IsNoScript b line) c.deref.ensures.value shown in
    let leads = no_script_leads (script_ran c.args.project) bytes line why in
    read_on _ _ _ _ _ _ (Say verdict.Script (only line)) _ _ _ _ _ _ refl came.ok came.whole came.failures came.same leads c.say.ensures
