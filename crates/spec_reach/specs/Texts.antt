-- The rungs that can come to run: those of the books, and those of scans in progress, in every state that a journal leads to.
use Rattle.std.specs.Prelude.{◌≡◌, ℕ, ◌<◌, List, length, Some}
use Rattle.std.specs.List.{AllByRecursion as Each}
use Rattle.spec_scan.specs.Executable.{AreExecutable, IsExecutableProgram}
use Rattle.spec_scan.specs.KnownTasks.{KnowsTasks, ProgramKnowsTasks}
use Rattle.spec_scan.specs.Position.{ProgramRungs}
use Rattle.spec_machine.specs.declared.event.Event.{Event}
use Rattle.spec_machine.specs.Edits.{Book}
use Rattle.spec_machine.specs.Machine.{run}
use Rattle.spec_machine.specs.Project.{Project, RoutineText}
use Rattle.spec_machine.specs.State.{Scan, progress_of}
use Rattle.spec_machine.specs.ValidProject.{IsValidProject}

-- a routine's rungs can be executed over an image of `len` bytes, and trigger some of `count` tasks
pub record IsText (len count : ℕ) (r : RoutineText) : Type 0 where
  pub executable : AreExecutable len r.checked
  pub tasks : KnowsTasks count r.checked

-- so do those of the base and the merged ones, which are equally many, and the main routine is one of them
pub record IsBook (len count : ℕ) (b : Book) : Type 0 where
  pub base : Each (IsText len count) b.base
  pub merged : Each (IsText len count) b.merged
  pub many : length b.merged ≡ length b.base
  pub main : b.main < length b.base

abbrev pub BooksCanRun : Type 0
BooksCanRun = (p : Project) (journal : List Event) → IsValidProject p → Each (IsBook (length p.image) (length p.tasks)) (run p journal).books

-- a program as it runs
pub record IsProgram (len count : ℕ) (rungs : ProgramRungs) : Type 0 where
  pub executable : IsExecutableProgram len rungs
  pub tasks : ProgramKnowsTasks count rungs
  pub main : rungs.main < length rungs.routines

-- the rungs of each scan in progress
abbrev pub ScansCanRun : Type 0
ScansCanRun = (p : Project) (journal : List Event) (t : ℕ) (scan : Scan) → IsValidProject p → (progress_of (run p journal) t).scan ≡ Some scan → IsProgram (length p.image) (length p.tasks) scan.rungs
