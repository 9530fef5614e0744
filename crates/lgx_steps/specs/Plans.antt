-- What is true of a controller's plan, which no event changes, and of the rungs of its programs.
use Rattle.std.specs.Prelude.{◌≡◌, ℕ, ◌+◌, ◌*◌, ◌<◌, ◌≤◌, List, [], length, Option, Some, None, slice_index, slice_index_or}
use Rattle.std.specs.List.{AllByRecursion as Each}
use Rattle.spec_base.specs.declared.limits.TheConstants.{MAX_IMAGE_BYTES, MAX_TASKS}
use Rattle.spec_machine.specs.declared.limits.TheConstants.{MAX_PROGRAMS}
use Rattle.spec_tables.specs.declared.conn.ConnDef.{ConnDef}
use Rattle.spec_language.specs.Declarations.{bytes as bytes_of}
use Rattle.spec_language.specs.ResolutionLaws.{Sound}
use Rattle.spec_scan.specs.Executable.{AreExecutable}
use Rattle.spec_scan.specs.KnownTasks.{KnowsTasks}
use Rattle.spec_machine.specs.Project.{RoutineText}
use Rattle.spec_machine.specs.Edits.{Book}
use Rattle.spec_machine.specs.State.{Plan}

-- ---- the lists of programs

abbrev pub list_at : List (List ℕ) → ℕ → List ℕ
list_at schedule t = slice_index_or schedule t []

-- a task's list has a program at least, and programs alone
pub record IsList (programs : ℕ) (list : List ℕ) : Type 0 where
  pub some : 0 < length list
  pub known : (i : ℕ) → i < length list → slice_index list i < programs

-- no program is at two places of the lists
abbrev pub EachOnce : List (List ℕ) → Type 0
EachOnce schedule = (t u i j : ℕ) → i < length (list_at schedule t) → j < length (list_at schedule u) → slice_index (list_at schedule t) i ≡ slice_index (list_at schedule u) j → (t ≡ u) × (i ≡ j)

-- ---- connections

-- a task, if there is one, is one of `tasks` tasks
abbrev pub IsKnown : ℕ → Option ℕ → Type 0
IsKnown tasks None = Unit {0}
IsKnown tasks (Some t) = t < tasks

-- a connection's words lie in an image of `len` bytes, and what it triggers is one of `tasks` tasks
pub record ConnFits (len tasks : ℕ) (c : ConnDef) : Type 0 where
  pub inside : c.byte + 4 * c.words ≤ len
  pub trigger : IsKnown tasks c.trigger

-- ---- the plan

-- The tags are sound; there are few tasks, programs and bytes, and a name for each task; each task's list of programs is in order, and no
-- program has two tasks; the connections lie in the image of the tags, and trigger tasks.
pub record IsSoundPlan (p : Plan) : Type 0 where
  pub tags : Sound p.tags
  pub few : length p.schedule ≤ MAX_TASKS
  pub programs : p.tags.programs ≤ MAX_PROGRAMS
  pub bytes : bytes_of p.tags ≤ MAX_IMAGE_BYTES
  pub names : length p.names ≡ length p.schedule
  pub lists : (t : ℕ) → t < length p.schedule → IsList p.tags.programs (list_at p.schedule t)
  pub once : EachOnce p.schedule
  pub conns : Each (ConnFits (bytes_of p.tags) (length p.schedule)) p.conns

-- ---- rungs

-- the rungs of these routines can be executed over an image of `len` bytes, and trigger some of `tasks` tasks
pub record AreReady (len tasks : ℕ) (routines : List RoutineText) : Type 0 where
  pub executable : Each (λ r. AreExecutable len r.checked) routines
  pub know : Each (λ r. KnowsTasks tasks r.checked) routines

-- so can those of a book, whose accepts have numbers up to n
pub record IsReadyBook (len tasks n : ℕ) (b : Book) : Type 0 where
  pub base : AreReady len tasks b.base
  pub merged : AreReady len tasks b.merged
  pub newest : b.newest ≤ n
