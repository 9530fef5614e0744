-- What it means that the parts of a controller represent a state of the machine.
use Rattle.std.specs.Prelude.{◌≡◌, ◌≢◌, ℕ, ◌+◌, ◌<◌, ◌≤◌, true, List, length, Option, Some, None, slice_index, slice_index_or}
use Rattle.std.specs.List.{AllByRecursion as Each}
use Rattle.spec_base.specs.declared.limits.TheConstants.{MAX_EVENTS}
use Rattle.spec_language.specs.Declarations.{bytes}
use Rattle.spec_tables.specs.Connections.{words_of}
use Rattle.spec_tables.specs.Tasks.{region_count}
use Rattle.spec_scan.specs.KnownTasks.{ProgramKnowsTasks}
use Rattle.spec_machine.specs.State.{State, Scan, Progress, progress_of, programs_of}
use Rattle.lgx_engine.specs.Represents.{IsRunOf}
use Rattle.lgx_engine.specs.Views.{PositionView}
use Rattle.lgx_fault.specs.Kept.{last_faults}
use Rattle.lgx_sched.specs.Represents.{RepresentsTable}
use Rattle.lgx_versions.specs.declared.slots.Version.{Version}
use Rattle.lgx_edit.specs.EditsView.{books, holds}
use Rattle.lgx_edit.specs.CheckedBooks.{AreChecked}
use Rattle.lgx_steps.specs.declared.parts.Scan.{Scan as KeptScan}
use Rattle.lgx_steps.specs.declared.parts.Progress.{Progress as KeptProgress}
use Rattle.lgx_steps.specs.declared.parts.ControllerParts.{ControllerParts}
use Rattle.lgx_steps.specs.PartsView.{PartsView, view_of, idle}
use Rattle.lgx_steps.specs.Plans.{IsSoundPlan, IsReadyBook}

-- ---- a task's progress

-- the version of a program that is held, if there is one
abbrev pub held_in : List (Option Version) → ℕ → Option Version
held_in held n = slice_index_or held n None

abbrev pub progress_at : List KeptProgress → ℕ → KeptProgress
progress_at all t = slice_index_or all t idle

module _ (held : List (Option Version)) (len tasks : ℕ) where
  -- A scan in progress is of the program that is next. A version of this program is held; it runs, over an image of `len` bytes, as
  -- the rungs that the scan took, from its position; and these trigger some of `tasks` tasks.
  pub record RepresentsScan (next : ℕ) (v : KeptScan) (place : PositionView) (s : Scan) : Type 0 where
    pub program : v.program ≡ s.program
    pub is_next : s.program ≡ next
    pub first : v.first ≡ s.first
    pub version : Version
    pub held_is : held_in held next ≡ Some version
    pub runs : IsRunOf version.program place s.rungs s.position len
    pub know : ProgramKnowsTasks tasks s.rungs

  -- without a scan nothing of the program that is next is held
  abbrev pub ScanAs : ℕ → Option KeptScan → PositionView → Option Scan → Type 0
  ScanAs next None place None = held_in held next ≡ None
  ScanAs next (Some v) place (Some s) = RepresentsScan next v place s
  ScanAs next None place (Some s) = ⊥
  ScanAs next (Some v) place None = ⊥

  -- A task with this list of programs, of which one is next, has this progress. Nothing of the others is held.
  pub record RepresentsTask (list : List ℕ) (v : KeptProgress) (p : Progress) : Type 0 where
    pub ended : v.ended ≡ p.ended
    pub flags : v.flags ≡ p.flags
    pub left : p.ended < length list
    pub scan : ScanAs (slice_index list p.ended) v.scan v.position p.scan
    pub others : (i : ℕ) → i < length list → i ≢ p.ended → held_in held (slice_index list i) ≡ None

-- ---- what is true of every state

-- after n events
pub record IsSane (n : ℕ) (s : State) : Type 0 where
  pub plan : IsSoundPlan s.plan
  pub tasks : length s.table.defs ≡ length s.plan.schedule
  pub progresses : length s.progress ≡ length s.plan.schedule
  pub programs : length s.books ≡ s.plan.tags.programs
  pub firsts : length s.firsts ≡ s.plan.tags.programs
  pub image : length s.image ≡ bytes s.plan.tags
  pub words : length s.forces.words ≡ words_of s.plan.conns
  pub tick : s.tick ≤ n
  pub regions : Each (λ u. region_count u ≤ n) s.table.states
  pub books : Each (IsReadyBook (bytes s.plan.tags) (length s.plan.schedule) n) s.books
  pub checked : AreChecked s.plan.tags s.plan.names s.books

-- ---- all of it

-- They represent this state, which n events led to. Mode, tick, image, forces and books are the state's, and of its faults the
-- last are kept; the table of tasks represents that of the state, and so does each task's progress.
pub record RepresentsState (n : ℕ) (v : PartsView) (s : State) : Type 0 where
  pub plan : v.plan ≡ s.plan
  pub sealed : v.sealed ≡ true
  pub mode : v.mode ≡ s.mode
  pub tick : v.tick ≡ s.tick
  pub table : RepresentsTable v.table s.table
  pub progresses : length v.progress ≡ length s.plan.schedule
  pub tasks : (t : ℕ) → t < length s.plan.schedule → RepresentsTask (holds v.book) (bytes s.plan.tags) (length s.plan.schedule) (programs_of s t) (progress_at v.progress t) (progress_of s t)
  pub firsts : v.firsts ≡ s.firsts
  pub image : v.image.bytes ≡ s.image
  pub books : books v.book ≡ s.books
  pub forces : v.forces ≡ s.forces
  pub faults : v.faults ≡ last_faults s.faults
  pub sane : IsSane n s

abbrev pub RepresentsParts : ℕ → ControllerParts → State → Type 0
RepresentsParts n v s = RepresentsState n (view_of v) s

-- they represent a state, of no more events than are counted
pub record IsLive (v : ControllerParts) : Type 0 where
  pub events : ℕ
  pub state : State
  pub room : events ≤ MAX_EVENTS
  pub represents : RepresentsParts events v state

-- and there is room for so many events more
pub record HasRoomFor (count : ℕ) (v : ControllerParts) : Type 0 where
  pub events : ℕ
  pub state : State
  pub room : events + count ≤ MAX_EVENTS
  pub represents : RepresentsParts events v state

-- and there is room for another event
pub record HasRoom (v : ControllerParts) : Type 0 where
  pub events : ℕ
  pub state : State
  pub room : events < MAX_EVENTS
  pub represents : RepresentsParts events v state
