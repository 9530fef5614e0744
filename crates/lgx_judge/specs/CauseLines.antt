-- The lines that say why a file is no project, no journal or no script.
use Rattle.std.specs.Prelude.{ℕ, List, [], ◌∷◌, ◌++◌, codes, decimal}
use Rattle.spec_language.specs.declared.types.TypeCode.{TypeCode}
use Rattle.spec_language.specs.declared.types.TypeCode.TheVariants.{Y1, Y2, Y3, Y4, Y5, Y6}
use Rattle.spec_language.specs.declared.tag.TagCode.{TagCode}
use Rattle.spec_language.specs.declared.tag.TagCode.TheVariants.{G1, G2, G3, G4, G5, G6, G7, G8, G9, G10}
use Rattle.spec_project.specs.declared.fault.ProjectCode.{ProjectCode}
use Rattle.spec_project.specs.declared.fault.ProjectCode.TheVariants.{P1, P2, P3, P4, P5, P6, P7, P8, P9, P10, P11}
use Rattle.spec_project.specs.declared.fault.Inner.{Inner}
use Rattle.spec_project.specs.declared.fault.Inner.TheVariants.{Nothing, OfType, OfTag, OfText, OfCheck}
use Rattle.spec_project.specs.declared.fault.ProjectFault.{ProjectFault}
use Rattle.spec_text.specs.declared.script.JournalCode.{JournalCode}
use Rattle.spec_text.specs.declared.script.JournalCode.TheVariants.{J1, J2, J3, J4, J5}
use Rattle.spec_text.specs.declared.script.JournalFault.{JournalFault}
use Rattle.spec_text.specs.TextLines.{line_of}
use Rattle.spec_text.specs.ReportText.{text_fault, check_fault}

-- ---- codes

abbrev pub project_code : ProjectCode → List ℕ
project_code P1 = codes "P1"
project_code P2 = codes "P2"
project_code P3 = codes "P3"
project_code P4 = codes "P4"
project_code P5 = codes "P5"
project_code P6 = codes "P6"
project_code P7 = codes "P7"
project_code P8 = codes "P8"
project_code P9 = codes "P9"
project_code P10 = codes "P10"
project_code P11 = codes "P11"

abbrev pub type_code : TypeCode → List ℕ
type_code Y1 = codes "Y1"
type_code Y2 = codes "Y2"
type_code Y3 = codes "Y3"
type_code Y4 = codes "Y4"
type_code Y5 = codes "Y5"
type_code Y6 = codes "Y6"

abbrev pub tag_code : TagCode → List ℕ
tag_code G1 = codes "G1"
tag_code G2 = codes "G2"
tag_code G3 = codes "G3"
tag_code G4 = codes "G4"
tag_code G5 = codes "G5"
tag_code G6 = codes "G6"
tag_code G7 = codes "G7"
tag_code G8 = codes "G8"
tag_code G9 = codes "G9"
tag_code G10 = codes "G10"

abbrev pub journal_code : JournalCode → List ℕ
journal_code J1 = codes "J1"
journal_code J2 = codes "J2"
journal_code J3 = codes "J3"
journal_code J4 = codes "J4"
journal_code J5 = codes "J5"

-- ---- the project's line: its code; the path, unless it is empty; and what is refused there

abbrev pub path_words : List ℕ → List (List ℕ)
path_words [] = []
path_words (c ∷ path) = (c ∷ path) ∷ []

-- the code of a type or of a tag, or the fault of a rung's text or of a routine
abbrev pub inner_words : Inner → List (List ℕ)
inner_words Nothing = []
inner_words (OfType code) = type_code code ∷ []
inner_words (OfTag code) = tag_code code ∷ []
inner_words (OfText fault) = text_fault fault
inner_words (OfCheck fault) = check_fault fault

abbrev pub project_cause : ProjectFault → List (List ℕ)
project_cause f = codes "project" ∷ project_code f.code ∷ (path_words f.path ++ inner_words f.inner)

unfoldable pub project_cause_line : ProjectFault → List ℕ
project_cause_line f = line_of (project_cause f)

-- ---- the line of a journal, or of a script: its code and the number of the line

abbrev pub line_words : JournalFault → List (List ℕ)
line_words f = journal_code f.code ∷ codes "line" ∷ decimal f.line ∷ []

abbrev pub journal_cause : JournalFault → List (List ℕ)
journal_cause f = codes "journal" ∷ line_words f

unfoldable pub journal_cause_line : JournalFault → List ℕ
journal_cause_line f = line_of (journal_cause f)

abbrev pub script_cause : JournalFault → List (List ℕ)
script_cause f = codes "script" ∷ line_words f

unfoldable pub script_cause_line : JournalFault → List ℕ
script_cause_line f = line_of (script_cause f)
