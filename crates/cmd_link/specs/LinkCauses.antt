-- The lines that say why one of the three files is refused.
use Rattle.std.specs.Prelude.{◌≡◌, ℕ, List, [], ◌∷◌, ◌++◌, Err, codes, decimal}
use Rattle.spec_machine.specs.Project.{Project}
use Rattle.spec_text.specs.TextLines.{line_of}
use Rattle.spec_project.specs.declared.fault.ProjectFault.{ProjectFault}
use Rattle.spec_project.specs.Projects.{project_of}
use Rattle.spec_link.specs.declared.script.LinkCode.{LinkCode}
use Rattle.spec_link.specs.declared.script.LinkCode.TheVariants.{J1, J2, J4, U1}
use Rattle.spec_link.specs.declared.script.LinkFault.{LinkFault}
use Rattle.spec_link.specs.LinkText.{link_of}
use Rattle.lgx_judge.specs.CauseLines.{project_cause_line}

-- ---- a link script's line: its code and the number of the line

abbrev pub link_code : LinkCode → List ℕ
link_code J1 = codes "J1"
link_code J2 = codes "J2"
link_code J4 = codes "J4"
link_code U1 = codes "U1"

unfoldable pub link_cause_line : LinkFault → List ℕ
link_cause_line f = line_of (codes "link" ∷ link_code f.code ∷ codes "line" ∷ decimal f.line ∷ [])

-- ---- a controller's line: its letter, and that of its project

abbrev pub controller_cause_line : List ℕ → ProjectFault → List ℕ
controller_cause_line letter fault = letter ++ project_cause_line fault

-- ---- what a reader says of the bytes of a file

-- the bytes are no project, and this is the line that says why
pub record IsNoController (letter bytes line : List ℕ) : Type 0 where
  pub fault : ProjectFault
  pub refused : project_of bytes ≡ Err fault
  pub line_is : line ≡ controller_cause_line letter fault

-- the bytes are no link script for these projects, and this is the line that says why
pub record IsNoLink (a b : Project) (bytes line : List ℕ) : Type 0 where
  pub fault : LinkFault
  pub refused : link_of a b bytes ≡ Err fault
  pub line_is : line ≡ link_cause_line fault
