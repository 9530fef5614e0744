use Rattle.std.proofs.Common.{◌≡◌, Ok, refl, sym, ap, ◌∙◌, subst}
use Rattle.spec_project.specs.Projects.{project_of}
use Rattle.lgx_answer.specs.declared.status.Verdict.TheVariants as verdict
use Rattle.lgx_answer.specs.Plan.{Say, only}
use Rattle.lgx_answer.proofs.Follow.{read_on}
use Rattle.lgx_judge.specs.Judged.{IsNoProject}
use Rattle.cmd_stations.specs.StationsPlan.{journal_read}
use Rattle.cmd_stations.proofs.Leads.{said_ok, came_if_ok, no_project_leads, project_read}
use Rattle.cmd_stations.proofs.command.stations.Goals as goal

pub returns-in-Ok-Accepted-clause-follows : goal.returns-in-Ok-Accepted-clause-follows
returns-in-Ok-Accepted-clause-follows g c =
    let bytes = c.in-Ok.bytes.items in
    let project = c.in-Ok-Accepted.project in
    let journal = c.args.journal.now in
    let came = c.in-Ok.ensures in
    let read = c.in-Ok-Accepted.ensures.accepted _ (ap (λ j. Ok j) c.in-Ok-Accepted.field-0-is) in
    let is : project_of bytes ≡ Ok project = ap project_of (sym c.deref.ensures.value) ∙ read in
    let leads = project_read journal bytes c.args.stations project is in
    read_on _ _ _ _ _ _ (journal_read journal c.args.stations project) _ _ _ _ _ _ refl came.ok came.whole came.failures came.same leads c.watch_on.ensures.follows

pub returns-in-Ok-Refused-clause-follows : goal.returns-in-Ok-Refused-clause-follows
returns-in-Ok-Refused-clause-follows g c =
    let bytes = c.in-Ok.bytes.items in
    let line = c.as_slice.result.now in
    let came = c.in-Ok.ensures in
    let told = c.in-Ok-Refused.ensures.refused _ (ap (λ j. Ok j) c.in-Ok-Refused.field-0-is) in
    let shown : IsNoProject c.deref.result.now line = subst (λ l. IsNoProject c.deref.result.now l) (sym c.as_slice.ensures) told in
    let why : IsNoProject bytes line = subst (λ b. IsNoProject b line) c.deref.ensures.value shown in
    let leads = no_project_leads (journal_read c.args.journal.now c.args.stations) bytes line why in
    read_on _ _ _ _ _ _ (Say verdict.Project (only line)) _ _ _ _ _ _ refl came.ok came.whole came.failures came.same leads c.say.ensures

pub returns-in-Ok-Refused-clause-asked : goal.returns-in-Ok-Refused-clause-asked
returns-in-Ok-Refused-clause-asked g c = λ ok.
    let so : verdict.Ok ≡ verdict.Project = said_ok verdict.Project (only c.as_slice.result.now) (g.F.Files.told c.args.files.now) _ _ _ c.say.result c.say.ensures ok in
    absurd (cc so)

pub returns-in-Err-clause-asked : goal.returns-in-Err-clause-asked
returns-in-Err-clause-asked g c = λ ok. absurd (came_if_ok c.in-Err.fault c.after_read.result c.after_read.ensures ok)
