-- What the bytes of the three files lead to, by what a reader tells of them.
use Rattle.std.proofs.Common.{◌≡◌, ℕ, List, Result, Ok, refl, sym, subst}
use Rattle.spec_machine.specs.Project.{Project}
use Rattle.spec_text.specs.ReportText.{names_of}
use Rattle.spec_explore.specs.declared.question.Question.{Question}
use Rattle.spec_explore.specs.declared.question.QuestionFault.{QuestionFault}
use Rattle.spec_explore.specs.QuestionText.{question_of}
use Rattle.lgx_answer.specs.declared.status.Verdict.{Verdict}
use Rattle.lgx_answer.specs.declared.status.Verdict.TheVariants as verdict
use Rattle.lgx_answer.specs.Plan.{Plan, Says}
use Rattle.cmd_explore.specs.QuestionCauses.{IsNoQuestion}
use Rattle.cmd_explore.specs.ExplorePlan.{of_question, on_question}

-- the same, by equal words
pub says_as : (next : List ℕ → Plan) (shown bytes refusal line : List ℕ) (v said : Verdict) → shown ≡ bytes → v ≡ said → refusal ≡ line
    → Says (next shown) v refusal → Says (next bytes) said line
says_as next shown bytes refusal line v said same_bytes same_verdict same_line says =
    let P : List ℕ → Type 0 = λ bs. Says (next bs) said line in
    let Q : Verdict → Type 0 = λ w. Says (next shown) w line in
    let R : List ℕ → Type 0 = λ t. Says (next shown) v t in
    subst P same_bytes (subst Q same_verdict (subst R same_line says))

-- ---- the question

pub question_refused : (p : Project) (accepted : Question → Plan) (bytes line : List ℕ) → IsNoQuestion p bytes line → Says (on_question p accepted bytes) verdict.Script line
question_refused p accepted bytes line why =
    let P : Result Question QuestionFault → Type 0 = λ r. Says (of_question accepted r) verdict.Script line in
    subst P (sym why.refused) (refl, why.line_is)

pub question_says : (p : Project) (accepted : Question → Plan) (bytes : List ℕ) (q : Question) (said : Verdict) (text : List ℕ)
    → question_of (names_of p) bytes ≡ Ok q → Says (accepted q) said text → Says (on_question p accepted bytes) said text
question_says p accepted bytes q said text is says =
    let P : Result Question QuestionFault → Type 0 = λ r. Says (of_question accepted r) said text in
    subst P (sym is) says
