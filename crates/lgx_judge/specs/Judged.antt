-- What a reader says of the bytes of a file.
use Rattle.std.specs.Prelude.{◌≡◌, ℕ, List, Err}
use Rattle.spec_text.specs.declared.script.JournalFault.{JournalFault}
use Rattle.spec_text.specs.JournalText.{journal_of}
use Rattle.spec_text.specs.ScriptText.{script_of}
use Rattle.spec_project.specs.declared.fault.ProjectFault.{ProjectFault}
use Rattle.spec_project.specs.Projects.{project_of}
use Rattle.lgx_judge.specs.CauseLines.{project_cause_line, journal_cause_line, script_cause_line}

-- the bytes are no project, and this is the line that says why
pub record IsNoProject (bytes line : List ℕ) : Type 0 where
  pub fault : ProjectFault
  pub refused : project_of bytes ≡ Err fault
  pub line_is : line ≡ project_cause_line fault

-- the bytes are no journal, and this is the line that says why
pub record IsNoJournal (bytes line : List ℕ) : Type 0 where
  pub fault : JournalFault
  pub refused : journal_of bytes ≡ Err fault
  pub line_is : line ≡ journal_cause_line fault

-- the bytes are no script, and this is the line that says why
pub record IsNoScript (bytes line : List ℕ) : Type 0 where
  pub fault : JournalFault
  pub refused : script_of bytes ≡ Err fault
  pub line_is : line ≡ script_cause_line fault
