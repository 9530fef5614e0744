-- The project that a controller runs.
use Rattle.std.specs.Prelude.{ℕ, List}
use Rattle.lgx_num.specs.declared.place.Place.{Place}
use Rattle.lgx_rung.specs.Tree.{Source}
use Rattle.spec_tables.specs.declared.task.TaskDef.{TaskDef}
use Rattle.spec_language.specs.declared.names.TaskName.{TaskName}
use Rattle.spec_tables.specs.declared.conn.ConnDef.{ConnDef}
use Rattle.spec_language.specs.Declarations.{Declarations}
use Rattle.spec_scan.specs.Position.{Rungs}

-- a routine: its rungs as they were written, and as they run
pub record RoutineText : Type 0 where
  pub name : List ℕ
  pub source : List Source
  pub checked : Rungs

-- a program: its routines, and the number of the main one
pub record ProgramText : Type 0 where
  pub name : List ℕ
  pub routines : List RoutineText
  pub main : ℕ

-- a watched place: its text as the project has it
pub record Watch : Type 0 where
  pub text : List ℕ
  pub place : Place

-- The tags and their values at the start, the programs, the tasks with their names and, for each, the numbers of its
-- programs in order, the I/O connections and the watched places. All lists are in project order.
pub record Project : Type 0 where
  pub tags : Declarations
  pub programs : List ProgramText
  pub tasks : List TaskDef
  pub names : List TaskName
  pub schedule : List (List ℕ)
  pub conns : List ConnDef
  pub image : List ℕ
  pub watches : List Watch
