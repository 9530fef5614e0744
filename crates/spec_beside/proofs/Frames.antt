-- The frames of a scan stand in their routines, and a step keeps it so.
use Rattle.std.specs.Prelude.{⊤}
use Rattle.std.specs.List.{AllByRecursion as Each}
use Rattle.std.proofs.Common.{ℕ, zero, suc, ◌||◌, Bool, true, false, List, [], ◌∷◌, ◌++◌, drop, Option, Some, None}
use Rattle.spec_base.proofs.Lists.{each_parts}
use Rattle.lgx_num.specs.declared.place.Flags.{Flags}
use Rattle.lgx_num.specs.declared.place.Place.{Place}
use Rattle.lgx_rung.specs.declared.ins.Ins.{Ins}
use Rattle.lgx_rung.specs.Tree.{Tree, end, one, fork, Legs, last, leg, instructions, leg_instructions}
use Rattle.spec_scan.specs.declared.bound.Copying.{Copying}
use Rattle.spec_scan.specs.Instructions.{Control, Nothing, Call, Return, Jump, ToggleZone, Up, Down, TriggerTask, StartCopy, MinorFault, MajorFault, row}
use Rattle.spec_scan.specs.Position.{Rungs, ProgramRungs, routine_rungs, OpenFork, NoZone, Cursor, Frame, Position, starts, along, along_legs, joined, next_rung, settled}
use Rattle.spec_scan.specs.Scan.{zone_after, after_row, in_frame, in_frames, in_progress}
use Rattle.spec_scan.proofs.RowControls.{IsOther, row_asks}
use Rattle.spec_reach.specs.Positions.{TreeHas, RungsHave, ForkHas, CursorHas}
use Rattle.spec_beside.specs.Frames.{FrameStands, FramesStand, RoutinesHave, CallsReturn, StepsKeepFrames}

-- as in spec_reach, where it is for one property of all frames
module _ (P : Ins → Type 0) where
  -- ---- settling

  mutual
    along_has : (t : Tree Ins) (on : Bool) (forks : List OpenFork) (rungs : Rungs) (next : Bool → Cursor) → TreeHas P t → Each (ForkHas P) forks → RungsHave P rungs → ((b : Bool) → CursorHas P (next b)) → CursorHas P (along t on forks rungs next)
    along_has end on forks rungs next h f r k = k on
    along_has (one i rest) on forks rungs next h f r k = record { rungs = r; rest = h; forks = f }
    along_has (fork t legs rest) on forks rungs next h f r k =
        let a = each_parts P (instructions t) (leg_instructions legs ++ instructions rest) h in
        let b = each_parts P (leg_instructions legs) (instructions rest) a.1 in
        along_has t on (record { legs = legs; start = on; any = false; after = rest } ∷ forks) rungs _ a.0 (record { legs = b.0; after = b.1 }, f) r
        (λ on'. legs_have legs on on' rest forks rungs _ b.0 b.1 f r (λ any. along_has rest any forks rungs next b.1 f r k))

    legs_have : (legs : Legs Ins) (start any : Bool) (after : Tree Ins) (forks : List OpenFork) (rungs : Rungs) (next : Bool → Cursor) → Each P (leg_instructions legs) → TreeHas P after → Each (ForkHas P) forks → RungsHave P rungs → ((b : Bool) → CursorHas P (next b)) → CursorHas P (along_legs legs start any after forks rungs next)
    legs_have last start any after forks rungs next h a f r k = k any
    legs_have (leg t legs) start any after forks rungs next h a f r k =
        let b = each_parts P (instructions t) (leg_instructions legs) h in
        along_has t start (record { legs = legs; start = start; any = any; after = after } ∷ forks) rungs _ b.0 (record { legs = b.1; after = a }, f) r
        (λ on. legs_have legs start (any || on) after forks rungs next b.1 a f r k)

  joined_has : (ks : List OpenFork) (on : Bool) (rungs : Rungs) (next : Bool → Cursor) → Each (ForkHas P) ks → RungsHave P rungs → ((b : Bool) → CursorHas P (next b)) → CursorHas P (joined ks on rungs next)
  joined_has [] on rungs next h r k = k on
  joined_has (x ∷ ks) on rungs next h r k =
      legs_have x.legs x.start (x.any || on) x.after ks rungs _ h.0.legs h.0.after h.1 r
      (λ any. along_has x.after any ks rungs _ h.0.after h.1 r (λ on'. joined_has ks on' rungs next h.1 r k))

  pub next_has : (start : Bool) (rungs : Rungs) (on : Bool) → RungsHave P rungs → CursorHas P (next_rung start rungs on)
  next_has start [] on h = record { rungs = tt; rest = tt; forks = tt }
  next_has start (r ∷ rs) on h = along_has r start [] rs (next_rung start rs) h.0 tt h.1 (λ b. next_has start rs b h.1)

  pub settled_has : (start : Bool) (c : Cursor) → CursorHas P c → CursorHas P (settled start c)
  settled_has start c h = along_has c.rest c.on c.forks c.rungs _ h.rest h.forks h.rungs (λ on. joined_has c.forks on c.rungs _ h.forks h.rungs (λ b. next_has start c.rungs b h.rungs))

  pub drop_has : (n : ℕ) (rungs : Rungs) → RungsHave P rungs → RungsHave P (drop n rungs)
  drop_has zero rungs h = h
  drop_has (suc n) [] h = tt
  drop_has (suc n) (r ∷ rs) h = drop_has n rs h.1

module _ (Of : ℕ → Ins → Type 0) (To : ℕ → Place → Type 0) where
  abbrev Stands : Frame → Type 0
  Stands f = FrameStands Of To f

  -- what a row asks for: of a call, that its returns are wanted by one
  abbrev Calls : Control → Type 0
  Calls (Call n inputs returns) = Each (To n) returns
  Calls _ = ⊤

  other_calls : (d : Control) → IsOther d → Calls d
  other_calls (Call n inputs returns) h = absurd h
  other_calls Nothing h = tt
  other_calls Return h = tt
  other_calls (Jump label) h = tt
  other_calls ToggleZone h = tt
  other_calls Up h = tt
  other_calls Down h = tt
  other_calls (TriggerTask t) h = tt
  other_calls (StartCopy c) h = tt
  other_calls MinorFault h = tt
  other_calls (MajorFault code) h = tt

  module _ (program : ProgramRungs) (position : Position) (image : List ℕ) (now : ℕ) (first : Bool) (flags : Flags) (has : RoutinesHave Of To program) (calls : CallsReturn Of To) (stand : FramesStand Of To position) where
    -- the frame goes on with a cursor of its routine
    settles : (f : Frame) → Stands f → Stands (record f { cursor = settled (starts f.zone) f.cursor })
    settles f h = record { cursor = settled_has (Of f.routine) (starts f.zone) f.cursor h.cursor; returns = h.returns }

    by_control : (on : Bool) (im : List ℕ) (fl : Flags) (d : Control) (f : Frame) (outer : List Frame) → Calls d → Stands f → Each Stands outer → FramesStand Of To (after_row program position image now first flags (record { on = on; image = im; flags = fl; control = d }) f outer).position
    by_control on im fl Nothing f outer c h k = (settles f h, k)
    by_control on im fl (Call n inputs returns) f outer c h k =
        (record { cursor = next_has (Of n) (starts NoZone) (routine_rungs program n) true (has n); returns = c }, (settles f h, k))
    by_control on im fl Return f outer c h k = (record { cursor = next_has (Of f.routine) (starts f.zone) [] f.cursor.on tt; returns = h.returns }, k)
    by_control on im fl (Jump label) f outer c h k =
        (record { cursor = next_has (Of f.routine) (starts f.zone) (drop label (routine_rungs program f.routine)) f.cursor.on (drop_has (Of f.routine) label (routine_rungs program f.routine) (has f.routine)); returns = h.returns }, k)
    by_control on im fl ToggleZone f outer c h k =
        (record { cursor = settled_has (Of f.routine) (starts (zone_after f.zone f.cursor.on)) f.cursor h.cursor; returns = h.returns }, k)
    by_control on im fl Up f outer c h k = (settles f h, k)
    by_control on im fl Down f outer c h k = (settles f h, k)
    by_control on im fl (TriggerTask t) f outer c h k = (settles f h, k)
    by_control on im fl (StartCopy copy) f outer c h k = (settles f h, k)
    by_control on im fl MinorFault f outer c h k = (settles f h, k)
    by_control on im fl (MajorFault code) f outer c h k = stand

    by_frame : (f : Frame) (outer : List Frame) (rest : Tree Ins) → TreeHas (Of f.routine) rest → Stands f → Each Stands outer → FramesStand Of To (in_frame program position image now first flags f outer rest).position
    by_frame f outer (one i rest) t h k =
        let r = row i.op i.args f.cursor.on now first position.frames flags image in
        by_control r.on r.image r.flags r.control (record f { cursor = record f.cursor { rest = rest; on = r.on } }) outer
        (row_asks Calls other_calls i.args f.cursor.on now first position.frames flags image i.op (λ bound found. record { call = λ is. calls f.routine i image bound t.0 is found; trigger = λ is. tt; copy = λ is c started. tt }))
        (record { cursor = record { rungs = h.cursor.rungs; rest = t.1; forks = h.cursor.forks }; returns = h.returns }) k
    by_frame f outer end t h k = k
    by_frame f outer (fork x legs rest) t h k = k

    by_frames : (fs : List Frame) → Each Stands fs → FramesStand Of To (in_frames program position image now first flags fs).position
    by_frames [] h = tt
    by_frames (f ∷ outer) h = by_frame f outer f.cursor.rest h.0.cursor.rest h.0 h.1

    by_copy : (o : Option Copying) → FramesStand Of To (in_progress program position image now first flags o).position
    by_copy None = by_frames position.frames stand
    by_copy (Some c) = stand

pub steps_keep_frames : StepsKeepFrames
steps_keep_frames Of To program position image now first flags has calls stand = by_copy Of To program position image now first flags has calls stand position.copy
