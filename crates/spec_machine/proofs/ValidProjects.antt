-- What holds of all checked rungs holds of a project's: that operands lie in the image follows from sealed tags, and that tasks are
-- the project's from their names.
use Rattle.std.proofs.Common.{◌≡◌, ℕ, ◌+◌, List, [], ◌∷◌, length, Ok, sym, subst}
use Rattle.std.specs.List.{AllByRecursion as Each, enumerate_from}
use Rattle.lgx_rung.specs.Tree.{Source}
use Rattle.spec_language.specs.Declarations.{bytes}
use Rattle.spec_language.specs.Checked.{checked}
use Rattle.spec_scan.specs.Executable.{AreExecutable}
use Rattle.spec_scan.specs.KnownTasks.{KnowsTasks}
use Rattle.spec_scan.specs.Position.{Rungs}
use Rattle.spec_machine.specs.ExecutableLaws.{CheckedAreExecutable, CheckedKnowTasks}
use Rattle.spec_machine.specs.Edits.{book_of, scope_of}
use Rattle.spec_machine.specs.Project.{Project, ProgramText, RoutineText}
use Rattle.spec_machine.specs.ValidProject.{HasSealedTags, IsChecked, IsExecutableOver}

-- this holds of the rungs of each routine
abbrev pub EachProgramHas : (Rungs → Type 0) → List ProgramText → Type 0
EachProgramHas P programs = Each (λ q. Each (λ r. P r.checked) q.routines) programs

module _ (p : Project) (P : Rungs → Type 0) (law : (n : ℕ) (q : ProgramText) (source : List Source) (made : Rungs) → checked (scope_of p.tags p.names n (book_of q)) source ≡ Ok made → P made) where
  routines_have : (n : ℕ) (q : ProgramText) (rs : List RoutineText) → Each (λ r. checked (scope_of p.tags p.names n (book_of q)) r.source ≡ Ok r.checked) rs → Each (λ r. P r.checked) rs
  routines_have n q [] h = tt
  routines_have n q (r ∷ rs) h = (law n q r.source r.checked h.0, routines_have n q rs h.1)

  programs_have : (n : ℕ) (ps : List ProgramText) → Each (IsChecked p) (enumerate_from n ps) → EachProgramHas P ps
  programs_have n [] h = tt
  programs_have n (q ∷ qs) h = (routines_have n q q.routines h.0, programs_have (n + 1) qs h.1)

pub operands_of : CheckedAreExecutable → (p : Project) → HasSealedTags p → Each (IsChecked p) (enumerate_from 0 p.programs) → Each (IsExecutableOver (length p.image)) p.programs
operands_of law p tags rungs =
    subst (λ len. Each (IsExecutableOver len) p.programs) (sym tags.image)
    (programs_have p (AreExecutable (bytes p.tags)) (λ n q source made e. law (scope_of p.tags p.names n (book_of q)) source made tags.sound e) 0 p.programs rungs)

pub tasks_of : CheckedKnowTasks → (p : Project) → length p.names ≡ length p.tasks → Each (IsChecked p) (enumerate_from 0 p.programs) → EachProgramHas (KnowsTasks (length p.tasks)) p.programs
tasks_of law p named rungs =
    subst (λ count. EachProgramHas (KnowsTasks count) p.programs) named
    (programs_have p (KnowsTasks (length p.names)) (λ n q source made e. law (scope_of p.tags p.names n (book_of q)) source made e) 0 p.programs rungs)
