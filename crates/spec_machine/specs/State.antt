-- The state of the machine.
use Rattle.std.specs.Prelude.{ℕ, Bool, false, List, [], ◌∷◌, ◌++◌, map, Option, None, slice_index_or}
use Rattle.lgx_num.specs.declared.place.Flags.{Flags}
use Rattle.spec_language.specs.declared.names.TaskName.{TaskName}
use Rattle.spec_tables.specs.declared.conn.ConnDef.{ConnDef}
use Rattle.spec_tables.specs.declared.fault.Fault.{Fault}
use Rattle.spec_machine.specs.declared.reply.Mode.{Mode}
use Rattle.spec_machine.specs.declared.reply.Mode.TheVariants.{Program}
use Rattle.spec_language.specs.Declarations.{Declarations}
use Rattle.spec_scan.specs.Position.{ProgramRungs, Position}
use Rattle.spec_tables.specs.Tasks.{Table}
use Rattle.spec_tables.specs.Forces.{Forces, no_forces}
use Rattle.spec_tables.specs.Connections.{words_of}
use Rattle.spec_machine.specs.Edits.{Book, book_of}
use Rattle.spec_machine.specs.Project.{Project}

-- A program scan in progress: the number of its program, whether it is the first since the change to Run, the rungs that
-- it took at its beginning, and where it is in them.
pub record Scan : Type 0 where
  pub program : ℕ
  pub first : Bool
  pub rungs : ProgramRungs
  pub position : Position

-- What a task has beside its state in the table: how many of its programs ended since its release, the scan in progress, and its flags,
-- which it keeps while it is down.
pub record Progress : Type 0 where
  pub ended : ℕ
  pub scan : Option Scan
  pub flags : Flags

-- what no event changes
pub record Plan : Type 0 where
  pub tags : Declarations
  pub names : List TaskName
  pub schedule : List (List ℕ)
  pub conns : List ConnDef

-- The mode and the tick; the tasks with their progress; for each program whether its next scan is its first since the
-- change to Run; the tags' image; for each program the book of its edits; the forces; and all faults in order.
pub record State : Type 0 where
  pub plan : Plan
  pub mode : Mode
  pub tick : ℕ
  pub table : Table
  pub progress : List Progress
  pub firsts : List Bool
  pub image : List ℕ
  pub books : List Book
  pub forces : Forces
  pub faults : List Fault

-- the state after an event of the machine or a part of one, and what is answered: what a step did, the report of a tick, the
-- outcome of an action
pub record Answered (A : Type 0) : Type 0 where
  pub state : State
  pub answer : A

abbrev pub no_flags : Flags
no_flags = record { v = false; z = false; n = false }

abbrev pub no_progress : Progress
no_progress = record { ended = 0; scan = None; flags = no_flags }

abbrev pub progress_of : State → ℕ → Progress
progress_of s t = slice_index_or s.progress t no_progress

-- the numbers of a task's programs in order
abbrev pub programs_of : State → ℕ → List ℕ
programs_of s t = slice_index_or s.plan.schedule t []

-- no program begun, and the flags as they are
abbrev pub dropped : Progress → Progress
dropped p = record p { ended = 0; scan = None }

abbrev pub with_fault : Fault → State → State
with_fault f s = record s { faults = s.faults ++ f ∷ [] }

abbrev pub plan_of : Project → Plan
plan_of p = record { tags = p.tags; names = p.names; schedule = p.schedule; conns = p.conns }

abbrev pub all_down : Project → Table
all_down p = record { defs = p.tasks; states = map (λ d. None) p.tasks; next = 0; run_since = 0 }

-- The controller starts in Program at tick 0.
abbrev pub start : Project → State
start p = record { plan = plan_of p; mode = Program; tick = 0; table = all_down p; progress = map (λ d. no_progress) p.tasks; firsts = map (λ q. false) p.programs; image = p.image; books = map book_of p.programs; forces = no_forces (words_of p.conns); faults = [] }
