-- Programs whose rungs were checked, without a task.
use Rattle.std.specs.Prelude.{◌≡◌, ℕ, List, [], map}
use Rattle.std.specs.List.{AllByRecursion as Each, enumerate_from}
use Rattle.spec_language.specs.Checked.{CheckScope}
use Rattle.spec_language.specs.Declarations.{Declarations}
use Rattle.spec_machine.specs.Edits.{book_of}
use Rattle.lgx_edit.specs.declared.texts.ProgramText.{ProgramText}
use Rattle.lgx_edit.specs.declared.texts.RoutineText.{RoutineText}
use Rattle.lgx_edit.specs.Texts.{routine_of, program_of}
use Rattle.lgx_edit.specs.CheckedBooks.{AreTextsChecked, IsBookChecked}

-- what the rungs of program n are checked against, if its routines have these names
abbrev pub scope_with : Declarations → ℕ → List (List ℕ) → CheckScope
scope_with tags n names = record { tags = tags; program = n; routines = names; tasks = [] }

abbrev pub names_of : List RoutineText → List (List ℕ)
names_of routines = map (λ r. r.name) (map routine_of routines)

-- the routines of program n
abbrev pub AreRoutines : Declarations → ℕ → List RoutineText → Type 0
AreRoutines tags n routines = AreTextsChecked (scope_with tags n (names_of routines)) (map routine_of routines)

-- these routines were checked, and have these names
pub record MadeOf (scope : CheckScope) (names : List (List ℕ)) (routines : List RoutineText) : Type 0 where
  pub texts : AreTextsChecked scope (map routine_of routines)
  pub named : names_of routines ≡ names

-- program n
abbrev pub IsProgram : Declarations → ℕ → ProgramText → Type 0
IsProgram tags n p = IsBookChecked tags [] n (book_of (program_of p))

-- all programs
abbrev pub ArePrograms : Declarations → List ProgramText → Type 0
ArePrograms tags programs = Each (λ e. IsProgram tags e.0 e.1) (enumerate_from 0 programs)
