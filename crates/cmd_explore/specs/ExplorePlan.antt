-- The plan of `logix_explore P S Q`: which files it reads, and what it says of their contents.
use Rattle.std.specs.Prelude.{ℕ, List, [], ◌∷◌, Result, Ok, Err, codes}
use Rattle.spec_machine.specs.Project.{Project}
use Rattle.spec_text.specs.Scripts.{Script}
use Rattle.spec_text.specs.ReportText.{names_of}
use Rattle.spec_explore.specs.declared.question.Question.{Question}
use Rattle.spec_explore.specs.declared.question.QuestionFault.{QuestionFault}
use Rattle.spec_explore.specs.QuestionText.{question_of}
use Rattle.lgx_walker.specs.declared.told.Told.{Told}
use Rattle.lgx_walker.specs.declared.told.Told.TheVariants as tell
use Rattle.lgx_walker.specs.Told.{IsTold}
use Rattle.lgx_answer.specs.declared.status.Verdict.{Verdict}
use Rattle.lgx_answer.specs.declared.status.Verdict.TheVariants as verdict
use Rattle.lgx_answer.specs.Plan.{Plan, Say, Read, OneOf, only}
use Rattle.lgx_judge.specs.Plans.{on_project, on_script}
use Rattle.cmd_explore.specs.ToldTexts.{IsToldText}
use Rattle.cmd_explore.specs.QuestionCauses.{question_cause_line}

-- ---- the answer

-- what is said of all journals of a script on a project, and that it is so
pub record Answer (p : Project) (script : Script) (q : Question) : Type 0 where
  pub told : Told
  pub is : IsTold p script q told

-- no line ever holds; a line does; or it isn't known
abbrev pub verdict_of : Told → Verdict
verdict_of tell.Never = verdict.Ok
verdict_of (tell.Witness journal line) = verdict.Breach
verdict_of (tell.Unknown steps) = verdict.Unknown

abbrev pub says : Question → Told → Plan
says q told = Say (verdict_of told) (λ bytes. IsToldText q told bytes)

-- one of the answers that are right
abbrev pub answered : Project → Script → Question → Plan
answered p script q = OneOf (Answer p script q) (λ a. says q a.told)

-- ---- the file of a question

abbrev pub of_question : (Question → Plan) → Result Question QuestionFault → Plan
of_question accepted (Err fault) = Say verdict.Script (only (question_cause_line fault))
of_question accepted (Ok q) = accepted q

-- it leads on by the question that its bytes are with the project's names, if they are one
abbrev pub on_question : Project → (Question → Plan) → List ℕ → Plan
on_question p accepted bytes = of_question accepted (question_of (names_of p) bytes)

-- ---- the three files, each read only if none before it is refused

abbrev pub question_read : Project → Script → List ℕ → Plan
question_read p script bytes = on_question p (answered p script) bytes

abbrev pub script_read : List ℕ → Project → List ℕ → Plan
script_read q p bytes = on_script (λ script. Read q (question_read p script)) bytes

abbrev pub project_read : List ℕ → List ℕ → List ℕ → Plan
project_read s q bytes = on_project (λ p. Read s (script_read q p)) bytes

abbrev pub explore_plan : List ℕ → List ℕ → List ℕ → Plan
explore_plan p s q = Read p (project_read s q)

-- ---- the words of the command line, which are the names of the three files

abbrev pub explore_usage : List ℕ
explore_usage = codes "usage: logix_explore P S Q\n"

abbrev pub plan_of : List (List ℕ) → Plan
plan_of (p ∷ s ∷ q ∷ []) = explore_plan p s q
plan_of _ = Say verdict.Usage (only explore_usage)
