-- What holds of each instruction that a position has to come.
use Rattle.std.specs.List.{AllByRecursion as Each}
use Rattle.lgx_rung.specs.Tree.{Tree, instructions, leg_instructions}
use Rattle.lgx_rung.specs.declared.ins.Ins.{Ins}
use Rattle.spec_scan.specs.Position.{Rungs, ProgramRungs, OpenFork, Cursor, Frame, Position}

module _ (P : Ins → Type 0) where
  -- of each instruction of a rung, of these rungs, and of the legs of an open fork and of what follows it
  abbrev pub TreeHas : Tree Ins → Type 0
  TreeHas t = Each P (instructions t)

  abbrev pub RungsHave : Rungs → Type 0
  RungsHave rungs = Each TreeHas rungs

  pub record ForkHas (k : OpenFork) : Type 0 where
    pub legs : Each P (leg_instructions k.legs)
    pub after : TreeHas k.after

  -- of a routine in progress: its rungs to come, the rest of the leg, and the open forks
  pub record CursorHas (c : Cursor) : Type 0 where
    pub rungs : RungsHave c.rungs
    pub rest : TreeHas c.rest
    pub forks : Each ForkHas c.forks

  abbrev pub FrameHas : Frame → Type 0
  FrameHas f = CursorHas f.cursor

  abbrev pub PositionHas : Position → Type 0
  PositionHas position = Each FrameHas position.frames

  -- each routine of a program
  abbrev pub ProgramHas : ProgramRungs → Type 0
  ProgramHas program = Each RungsHave program.routines
