-- That books hold rungs as they were checked.
use Rattle.std.specs.Prelude.{◌≡◌, ℕ, List, map, Ok}
use Rattle.std.specs.List.{AllByRecursion as Each, enumerate_from}
use Rattle.spec_language.specs.Checked.{CheckScope, checked}
use Rattle.spec_language.specs.Declarations.{Declarations}
use Rattle.spec_language.specs.declared.names.TaskName.{TaskName}
use Rattle.spec_machine.specs.Project.{RoutineText}
use Rattle.spec_machine.specs.Edits.{Book, scope_of}

-- each routine's checked rungs are those that its source gives against this scope
abbrev pub AreTextsChecked : CheckScope → List RoutineText → Type 0
AreTextsChecked scope routines = Each (λ r. checked scope r.source ≡ Ok r.checked) routines

-- so are the base and the merged routines of program n's book, which have the same names
pub record IsBookChecked (tags : Declarations) (tasks : List TaskName) (n : ℕ) (b : Book) : Type 0 where
  pub base : AreTextsChecked (scope_of tags tasks n b) b.base
  pub merged : AreTextsChecked (scope_of tags tasks n b) b.merged
  pub names : map (λ r. r.name) b.merged ≡ map (λ r. r.name) b.base

-- and those of all programs
abbrev pub AreChecked : Declarations → List TaskName → List Book → Type 0
AreChecked tags tasks books = Each (λ e. IsBookChecked tags tasks e.0 e.1) (enumerate_from 0 books)
