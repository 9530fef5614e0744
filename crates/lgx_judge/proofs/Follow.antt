-- What follows of a plan from what a reader tells of the bytes.
use Rattle.std.proofs.Common.{◌≡◌, ℕ, List, Result, Ok, refl, sym, subst}
use Rattle.spec_machine.specs.declared.event.Event.{Event}
use Rattle.spec_machine.specs.Project.{Project}
use Rattle.spec_text.specs.declared.script.JournalFault.{JournalFault}
use Rattle.spec_text.specs.Scripts.{Script}
use Rattle.spec_text.specs.JournalText.{journal_of}
use Rattle.spec_text.specs.ScriptText.{script_of}
use Rattle.spec_project.specs.declared.fault.ProjectFault.{ProjectFault}
use Rattle.spec_project.specs.Projects.{project_of}
use Rattle.lgx_answer.specs.declared.status.Verdict.{Verdict}
use Rattle.lgx_answer.specs.declared.status.Verdict.TheVariants as verdict
use Rattle.lgx_answer.specs.Plan.{Plan, Says}
use Rattle.lgx_answer.specs.Answered.{LeadsTo}
use Rattle.lgx_judge.specs.Plans.{of_project, on_project, of_journal, on_journal, of_script, on_script}
use Rattle.lgx_judge.specs.Judged.{IsNoProject, IsNoJournal, IsNoScript}

-- ---- a project

pub project_refused : (accepted : Project → Plan) (bytes line : List ℕ) → IsNoProject bytes line → Says (on_project accepted bytes) verdict.Project line
project_refused accepted bytes line refusal =
    let P : Result Project ProjectFault → Type 0 = λ r. Says (of_project accepted r) verdict.Project line in
    subst P (sym refusal.refused) (refl, refusal.line_is)

pub project_says : (accepted : Project → Plan) (bytes : List ℕ) (project : Project) (said : Verdict) (text : List ℕ)
    → project_of bytes ≡ Ok project → Says (accepted project) said text → Says (on_project accepted bytes) said text
project_says accepted bytes project said text is says =
    let P : Result Project ProjectFault → Type 0 = λ r. Says (of_project accepted r) said text in
    subst P (sym is) says

pub project_leads : (accepted : Project → Plan) (bytes : List ℕ) (project : Project) (next : Plan)
    → project_of bytes ≡ Ok project → LeadsTo (accepted project) next → LeadsTo (on_project accepted bytes) next
project_leads accepted bytes project next is leads =
    let P : Result Project ProjectFault → Type 0 = λ r. LeadsTo (of_project accepted r) next in
    subst P (sym is) leads

-- ---- a journal

pub journal_refused : (accepted : List Event → Plan) (bytes line : List ℕ) → IsNoJournal bytes line → Says (on_journal accepted bytes) verdict.Script line
journal_refused accepted bytes line refusal =
    let P : Result (List Event) JournalFault → Type 0 = λ r. Says (of_journal accepted r) verdict.Script line in
    subst P (sym refusal.refused) (refl, refusal.line_is)

pub journal_says : (accepted : List Event → Plan) (bytes : List ℕ) (journal : List Event) (said : Verdict) (text : List ℕ)
    → journal_of bytes ≡ Ok journal → Says (accepted journal) said text → Says (on_journal accepted bytes) said text
journal_says accepted bytes journal said text is says =
    let P : Result (List Event) JournalFault → Type 0 = λ r. Says (of_journal accepted r) said text in
    subst P (sym is) says

-- ---- a script

pub script_refused : (accepted : Script → Plan) (bytes line : List ℕ) → IsNoScript bytes line → Says (on_script accepted bytes) verdict.Script line
script_refused accepted bytes line refusal =
    let P : Result Script JournalFault → Type 0 = λ r. Says (of_script accepted r) verdict.Script line in
    subst P (sym refusal.refused) (refl, refusal.line_is)

pub script_says : (accepted : Script → Plan) (bytes : List ℕ) (script : Script) (said : Verdict) (text : List ℕ)
    → script_of bytes ≡ Ok script → Says (accepted script) said text → Says (on_script accepted bytes) said text
script_says accepted bytes script said text is says =
    let P : Result Script JournalFault → Type 0 = λ r. Says (of_script accepted r) said text in
    subst P (sym is) says
