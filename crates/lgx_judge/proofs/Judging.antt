-- What follows of a refusal.
use Rattle.std.proofs.Common.{◌≡◌, ℕ, List, subst}
use Rattle.spec_machine.specs.declared.event.Event.{Event}
use Rattle.spec_machine.specs.Project.{Project}
use Rattle.lgx_answer.specs.declared.status.Verdict.{Verdict}
use Rattle.lgx_answer.specs.declared.status.Verdict.TheVariants as verdict
use Rattle.lgx_answer.specs.Plan.{Plan, Says}
use Rattle.lgx_judge.specs.Judged.{IsNoProject, IsNoJournal}
use Rattle.lgx_judge.specs.Plans.{on_project, on_journal}
use Rattle.lgx_judge.proofs.Follow.{project_refused, journal_refused}

-- the same, by equal words
says_also : (plan : Plan) (verdict said : Verdict) (refusal line : List ℕ) → verdict ≡ said → refusal ≡ line
    → Says plan verdict refusal → Says plan said line
says_also plan verdict said refusal line same_verdict same_line says =
    let P : Verdict → Type 0 = λ v. Says plan v line in
    let Q : List ℕ → Type 0 = λ l. Says plan verdict l in
    subst P same_verdict (subst Q same_line says)

-- bytes that are no project are answered with the line that says why
pub says_no_project : (accepted : Project → Plan) (shown bytes refusal line : List ℕ) (said : Verdict)
    → IsNoProject shown refusal → shown ≡ bytes → verdict.Project ≡ said → refusal ≡ line
    → Says (on_project accepted bytes) said line
says_no_project accepted shown bytes refusal line said is_none same_bytes same_verdict same_line =
    let P : List ℕ → Type 0 = λ bs. Says (on_project accepted bs) said line in
    let says = project_refused accepted shown refusal is_none in
    subst P same_bytes (says_also (on_project accepted shown) verdict.Project said refusal line same_verdict same_line says)

-- and so are bytes that are no journal
pub says_no_journal : (accepted : List Event → Plan) (shown bytes refusal line : List ℕ) (said : Verdict)
    → IsNoJournal shown refusal → shown ≡ bytes → verdict.Script ≡ said → refusal ≡ line
    → Says (on_journal accepted bytes) said line
says_no_journal accepted shown bytes refusal line said is_none same_bytes same_verdict same_line =
    let P : List ℕ → Type 0 = λ bs. Says (on_journal accepted bs) said line in
    let says = journal_refused accepted shown refusal is_none in
    subst P same_bytes (says_also (on_journal accepted shown) verdict.Script said refusal line same_verdict same_line says)
