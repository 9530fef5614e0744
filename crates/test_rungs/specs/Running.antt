-- A program that a test runs, to contracts.
use Rattle.std.specs.Prelude.{ℕ}
use Rattle.lgx_num.specs.declared.place.Flags.{Flags}
use Rattle.lgx_image.specs.Grains.{ImageView}
use Rattle.spec_scan.specs.Position.{ProgramRungs, Position}
use Rattle.lgx_prog.specs.FlatProgram.{Program}
use Rattle.lgx_engine.specs.Views.{PositionView}
use Rattle.lgx_engine.specs.Represents.{IsRunOf}

-- the program, where its scan is, and the tags and flags
pub record Running : Type 0 where
  pub program : Program
  pub place : PositionView
  pub image : ImageView
  pub flags : Flags

-- it runs as some rungs from some position
abbrev pub IsRunning : Program → PositionView → ℕ → Type 0
IsRunning program place len = (rungs : ProgramRungs) × (p : Position) × IsRunOf program place rungs p len
