-- The line that says why a file is no question.
use Rattle.std.specs.Prelude.{◌≡◌, ℕ, List, [], ◌∷◌, Err, codes, decimal}
use Rattle.spec_machine.specs.Project.{Project}
use Rattle.spec_text.specs.TextLines.{line_of}
use Rattle.spec_text.specs.ReportText.{names_of}
use Rattle.spec_explore.specs.declared.question.QuestionCode.{QuestionCode}
use Rattle.spec_explore.specs.declared.question.QuestionCode.TheVariants.{Q1, Q2, Q3, Q4}
use Rattle.spec_explore.specs.declared.question.QuestionFault.{QuestionFault}
use Rattle.spec_explore.specs.QuestionText.{question_of}

abbrev pub question_code : QuestionCode → List ℕ
question_code Q1 = codes "Q1"
question_code Q2 = codes "Q2"
question_code Q3 = codes "Q3"
question_code Q4 = codes "Q4"

-- its code and the number of the line
unfoldable pub question_cause_line : QuestionFault → List ℕ
question_cause_line f = line_of (codes "question" ∷ question_code f.code ∷ codes "line" ∷ decimal f.line ∷ [])

-- the bytes are no question on the project, and this is the line that says why
pub record IsNoQuestion (p : Project) (bytes line : List ℕ) : Type 0 where
  pub fault : QuestionFault
  pub refused : question_of (names_of p) bytes ≡ Err fault
  pub line_is : line ≡ question_cause_line fault
