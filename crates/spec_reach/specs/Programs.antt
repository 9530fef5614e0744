-- Which program of its list a task is at, in every state that a journal leads to.
use Rattle.std.specs.Prelude.{◌≡◌, ℕ, ◌<◌, List, length, slice_index, Some}
use Rattle.spec_machine.specs.declared.event.Event.{Event}
use Rattle.spec_machine.specs.Machine.{run}
use Rattle.spec_machine.specs.Project.{Project}
use Rattle.spec_machine.specs.State.{State, Scan, progress_of, programs_of}
use Rattle.spec_machine.specs.ValidProject.{IsValidProject}
use Rattle.spec_tables.specs.Tasks.{TaskState, state_of}

-- a task that is up has a program to come, and its scan is of that one, which is one of the project's
pub record IsAtProgram (p : Project) (s : State) (t : ℕ) : Type 0 where
  pub to_come : (u : TaskState) → state_of s.table t ≡ Some u → (progress_of s t).ended < length (programs_of s t)
  pub scanned : (scan : Scan) → (progress_of s t).scan ≡ Some scan → scan.program ≡ slice_index (programs_of s t) (progress_of s t).ended
  pub known : (k : ℕ) → k < length (programs_of s t) → slice_index (programs_of s t) k < length p.programs

abbrev pub TasksAreAtPrograms : Type 0
TasksAreAtPrograms = (p : Project) (journal : List Event) (t : ℕ) → IsValidProject p → IsAtProgram p (run p journal) t

-- No two tasks have a program in common, so that no program is scanned by two.
abbrev pub ListsAreApart : Type 0
ListsAreApart = (p : Project) (journal : List Event) (t u k j : ℕ) → IsValidProject p → k < length (programs_of (run p journal) t) → j < length (programs_of (run p journal) u) → slice_index (programs_of (run p journal) t) k ≡ slice_index (programs_of (run p journal) u) j → t ≡ u

abbrev pub ProgramsAreScannedOnce : Type 0
ProgramsAreScannedOnce = (p : Project) (journal : List Event) (t u : ℕ) (x y : Scan) → IsValidProject p → (progress_of (run p journal) t).scan ≡ Some x → (progress_of (run p journal) u).scan ≡ Some y → x.program ≡ y.program → t ≡ u
