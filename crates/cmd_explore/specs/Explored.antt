-- What the status of a call says of the files that its words name.
use Rattle.std.specs.Prelude.{◌≡◌, ℕ, List, [], nat_eq, if◌then◌else◌, Option, Some, None, Ok}
use Rattle.std.specs.Io.KnownBytes.{Appends, Keeps}
use Rattle.spec_machine.specs.Project.{Project}
use Rattle.spec_text.specs.Scripts.{Script}
use Rattle.spec_text.specs.ScriptText.{script_of}
use Rattle.spec_text.specs.ReportText.{names_of}
use Rattle.spec_project.specs.Projects.{project_of}
use Rattle.spec_explore.specs.declared.question.Question.{Question}
use Rattle.spec_explore.specs.QuestionText.{question_of}
use Rattle.lgx_walker.specs.declared.told.Told.{Told}
use Rattle.lgx_walker.specs.Told.{IsTold}
use Rattle.lgx_io.specs.Gathered.{GatheredState, held_by}
use Rattle.lgx_answer.specs.declared.status.Verdict.{Verdict}
use Rattle.lgx_answer.specs.declared.status.Verdict.TheVariants as verdict
use Rattle.lgx_answer.specs.Answered.{Change, Told as Contents, Came}
use Rattle.cmd_explore.specs.ToldTexts.{IsToldText}
use Rattle.cmd_explore.specs.ExplorePlan.{verdict_of}

-- the verdict that the number of a status means, if it is one that answers a question
abbrev pub said_by : ℕ → Option Verdict
said_by n = if nat_eq n 0 then Some verdict.Ok else if nat_eq n 8 then Some verdict.Breach else if nat_eq n 9 then Some verdict.Unknown else None

-- the three files came whole, and their texts are this project, this script, and this question on the project
pub record AreRead (contents : Contents) (p s q : List ℕ) (project : Project) (script : Script) (question : Question) : Type 0 where
  pub project_text : List ℕ
  pub project_came : Came contents p project_text
  pub is_project : project_of project_text ≡ Ok project
  pub script_text : List ℕ
  pub script_came : Came contents s script_text
  pub is_script : script_of script_text ≡ Ok script
  pub question_text : List ℕ
  pub question_came : Came contents q question_text
  pub is_question : question_of (names_of project) question_text ≡ Ok question

-- What is said of the three files is so, the verdict is the one for it, and its text was added to the output.
pub record Explored (contents : Contents) (held : Change (Option (List ℕ))) (p s q : List ℕ) (said : Verdict) : Type 0 where
  pub project : Project
  pub script : Script
  pub question : Question
  pub read : AreRead contents p s q project script question
  pub told : Told
  pub is_told : IsTold project script question told
  pub is_said : said ≡ verdict_of told
  pub text : List ℕ
  pub is_text : IsToldText question told text
  pub added : Appends held.old held.new text

-- the same of a process: the output holds the text to the end, and nothing of it waits to be written
pub record EndsExplored (contents : Contents) (old new : GatheredState) (p s q : List ℕ) (said : Verdict) : Type 0 where
  -- the output after the call
  pub after : GatheredState
  pub explored : Explored contents (record { old = held_by old; new = held_by after }) p s q said
  pub kept : Keeps (held_by after) (held_by new)
  pub written : new.waiting ≡ []
