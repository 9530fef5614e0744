-- A scan stands in its rungs: what holds of each instruction of a program holds of each that a position has to come.
use Rattle.std.proofs.Common.{ℕ, zero, suc, ◌||◌, Bool, true, false, List, [], ◌∷◌, ◌++◌, drop, ℤ, Option, Some, None}
use Rattle.std.specs.Prelude.{slice_index_or}
use Rattle.std.specs.List.{AllByRecursion as Each}
use Rattle.spec_base.proofs.Lists.{each_parts}
use Rattle.lgx_num.specs.declared.place.Flags.{Flags}
use Rattle.lgx_num.specs.declared.place.Place.{Place}
use Rattle.lgx_rung.specs.Tree.{Tree, end, one, fork, Legs, last, leg, instructions, leg_instructions}
use Rattle.lgx_rung.specs.declared.ins.Ins.{Ins}
use Rattle.spec_scan.specs.declared.bound.Copying.{Copying}
use Rattle.spec_scan.specs.Instructions.{Control, Nothing, Call, Return, Jump, ToggleZone, Up, Down, TriggerTask, StartCopy, MinorFault, MajorFault, row}
use Rattle.spec_scan.specs.Next.{FirstHas, NextHas}
use Rattle.spec_scan.specs.Position.{Rungs, ProgramRungs, routine_rungs, OpenFork, NoZone, Cursor, Frame, Position, starts, along, along_legs, joined, next_rung, settled, enter, first_position}
use Rattle.spec_reach.specs.Positions.{TreeHas, RungsHave, ForkHas, CursorHas, FrameHas, PositionHas, ProgramHas}
use Rattle.spec_scan.specs.Scan.{zone_after, after_row, in_frame, in_frames, in_progress, advance}

module _ (P : Ins → Type 0) where
  -- ---- settling

  mutual
    along_has : (t : Tree Ins) (on : Bool) (forks : List OpenFork) (rungs : Rungs) (next : Bool → Cursor) → TreeHas P t → Each (ForkHas P) forks → RungsHave P rungs → ((b : Bool) → CursorHas P (next b)) → CursorHas P (along t on forks rungs next)
    along_has end on forks rungs next h f r k = k on
    along_has (one i rest) on forks rungs next h f r k = record { rungs = r; rest = h; forks = f }
    along_has (fork t legs rest) on forks rungs next h f r k =
        let a = each_parts P (instructions t) (leg_instructions legs ++ instructions rest) h in
        let b = each_parts P (leg_instructions legs) (instructions rest) a.1 in
        along_has t on (record { legs = legs; start = on; any = false; after = rest } ∷ forks) rungs _ a.0 (record { legs = b.0; after = b.1 }, f) r
        (λ on'. legs_have legs on on' rest forks rungs _ b.0 b.1 f r (λ any. along_has rest any forks rungs next b.1 f r k))

    legs_have : (legs : Legs Ins) (start any : Bool) (after : Tree Ins) (forks : List OpenFork) (rungs : Rungs) (next : Bool → Cursor) → Each P (leg_instructions legs) → TreeHas P after → Each (ForkHas P) forks → RungsHave P rungs → ((b : Bool) → CursorHas P (next b)) → CursorHas P (along_legs legs start any after forks rungs next)
    legs_have last start any after forks rungs next h a f r k = k any
    legs_have (leg t legs) start any after forks rungs next h a f r k =
        let b = each_parts P (instructions t) (leg_instructions legs) h in
        along_has t start (record { legs = legs; start = start; any = any; after = after } ∷ forks) rungs _ b.0 (record { legs = b.1; after = a }, f) r
        (λ on. legs_have legs start (any || on) after forks rungs next b.1 a f r k)

  joined_has : (ks : List OpenFork) (on : Bool) (rungs : Rungs) (next : Bool → Cursor) → Each (ForkHas P) ks → RungsHave P rungs → ((b : Bool) → CursorHas P (next b)) → CursorHas P (joined ks on rungs next)
  joined_has [] on rungs next h r k = k on
  joined_has (x ∷ ks) on rungs next h r k =
      legs_have x.legs x.start (x.any || on) x.after ks rungs _ h.0.legs h.0.after h.1 r
      (λ any. along_has x.after any ks rungs _ h.0.after h.1 r (λ on'. joined_has ks on' rungs next h.1 r k))

  next_has : (start : Bool) (rungs : Rungs) (on : Bool) → RungsHave P rungs → CursorHas P (next_rung start rungs on)
  next_has start [] on h = record { rungs = tt; rest = tt; forks = tt }
  next_has start (r ∷ rs) on h = along_has r start [] rs (next_rung start rs) h.0 tt h.1 (λ b. next_has start rs b h.1)

  settled_has : (start : Bool) (c : Cursor) → CursorHas P c → CursorHas P (settled start c)
  settled_has start c h = along_has c.rest c.on c.forks c.rungs _ h.rest h.forks h.rungs (λ on. joined_has c.forks on c.rungs _ h.forks h.rungs (λ b. next_has start c.rungs b h.rungs))

  -- ---- frames

  routine_has : (routines : List Rungs) (n : ℕ) → Each (RungsHave P) routines → RungsHave P (slice_index_or routines n [])
  routine_has [] n h = tt
  routine_has (r ∷ rs) zero h = h.0
  routine_has (r ∷ rs) (suc n) h = routine_has rs n h.1

  drop_has : (n : ℕ) (rungs : Rungs) → RungsHave P rungs → RungsHave P (drop n rungs)
  drop_has zero rungs h = h
  drop_has (suc n) [] h = tt
  drop_has (suc n) (r ∷ rs) h = drop_has n rs h.1

  enter_has : (program : ProgramRungs) (n : ℕ) (inputs : List ℤ) (returns : List Place) → ProgramHas P program → FrameHas P (enter program n inputs returns)
  enter_has program n inputs returns h = next_has (starts NoZone) (routine_rungs program n) true (routine_has program.routines n h)

  -- a scan begins so
  pub first_has : (program : ProgramRungs) → ProgramHas P program → PositionHas P (first_position program)
  first_has program h = (enter_has program program.main [] [] h, tt)

  module _ (program : ProgramRungs) (position : Position) (image : List ℕ) (now : ℕ) (first : Bool) (flags : Flags) (has : ProgramHas P program) (stands : PositionHas P position) where
    by_control : (on : Bool) (im : List ℕ) (fl : Flags) (d : Control) (f : Frame) (outer : List Frame) → FrameHas P f → Each (FrameHas P) outer → PositionHas P (after_row program position image now first flags (record { on = on; image = im; flags = fl; control = d }) f outer).position
    by_control on im fl Nothing f outer h k = (settled_has (starts f.zone) f.cursor h, k)
    by_control on im fl (Call n inputs returns) f outer h k = (enter_has program n inputs returns has, (settled_has (starts f.zone) f.cursor h, k))
    by_control on im fl Return f outer h k = (next_has (starts f.zone) [] f.cursor.on tt, k)
    by_control on im fl (Jump label) f outer h k = (next_has (starts f.zone) (drop label (routine_rungs program f.routine)) f.cursor.on (drop_has label (routine_rungs program f.routine) (routine_has program.routines f.routine has)), k)
    by_control on im fl ToggleZone f outer h k = (settled_has (starts (zone_after f.zone f.cursor.on)) f.cursor h, k)
    by_control on im fl Up f outer h k = (settled_has (starts f.zone) f.cursor h, k)
    by_control on im fl Down f outer h k = (settled_has (starts f.zone) f.cursor h, k)
    by_control on im fl (TriggerTask t) f outer h k = (settled_has (starts f.zone) f.cursor h, k)
    by_control on im fl (StartCopy c) f outer h k = (settled_has (starts f.zone) f.cursor h, k)
    by_control on im fl MinorFault f outer h k = (settled_has (starts f.zone) f.cursor h, k)
    by_control on im fl (MajorFault code) f outer h k = stands

    by_frame : (f : Frame) (outer : List Frame) (rest : Tree Ins) → TreeHas P rest → FrameHas P f → Each (FrameHas P) outer → PositionHas P (in_frame program position image now first flags f outer rest).position
    by_frame f outer (one i rest) t h k =
        let r = row i.op i.args f.cursor.on now first position.frames flags image in
        by_control r.on r.image r.flags r.control (record f { cursor = record f.cursor { rest = rest; on = r.on } }) outer (record { rungs = h.rungs; rest = t.1; forks = h.forks }) k
    by_frame f outer end t h k = k
    by_frame f outer (fork x legs rest) t h k = k

    by_frames : (fs : List Frame) → Each (FrameHas P) fs → PositionHas P (in_frames program position image now first flags fs).position
    by_frames [] h = tt
    by_frames (f ∷ outer) h = by_frame f outer f.cursor.rest h.0.rest h.0 h.1

    by_copy : (o : Option Copying) → PositionHas P (in_progress program position image now first flags o).position
    by_copy None = by_frames position.frames stands
    by_copy (Some c) = stands

    -- and a step keeps it so
    pub step_has : PositionHas P (advance program position image now first flags).position
    step_has = by_copy position.copy

  -- what holds of all holds of the next
  pub next_instruction_has : (frames : List Frame) → Each (FrameHas P) frames → NextHas P frames
  next_instruction_has [] h = tt
  next_instruction_has (f ∷ outer) h = go f.cursor.rest h.0.rest
    where
      go : (t : Tree Ins) → TreeHas P t → FirstHas P t
      go (one i rest) h = h.0
      go end h = tt
      go (fork t legs rest) h = tt
