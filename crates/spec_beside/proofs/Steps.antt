-- A step of a scan changes no byte beside which its instruction, or its copy in progress, writes.
use Rattle.std.specs.Prelude.{nat_lt}
use Rattle.std.proofs.Common.{◌≡◌, ℕ, Bool, true, false, List, [], ◌∷◌, get_or, Option, Some, None, refl}
use Rattle.std.proofs.lemmas.Bool.{ltb-true}
use Rattle.lgx_num.specs.declared.place.Flags.{Flags}
use Rattle.lgx_rung.specs.declared.ins.Ins.{Ins}
use Rattle.lgx_rung.specs.Tree.{Tree, end, one, fork}
use Rattle.spec_scan.specs.declared.bound.Copying.{Copying}
use Rattle.spec_scan.specs.Copies.{after_element}
use Rattle.spec_scan.specs.Instructions.{Control, Nothing, Call, Return, Jump, ToggleZone, Up, Down, TriggerTask, StartCopy, MinorFault, MajorFault, row}
use Rattle.spec_scan.specs.Next.{FirstHas, NextHas}
use Rattle.spec_scan.specs.Position.{ProgramRungs, Frame, Position}
use Rattle.spec_scan.specs.Scan.{Advanced, after_row, in_frame, in_frames, in_progress}
use Rattle.spec_beside.specs.Copies.{CopyBeside}
use Rattle.spec_beside.specs.Steps.{ExecutesBeside, GoesBeside, IfCopies, StepsCopyBeside, StepsWriteBeside}
use Rattle.spec_beside.proofs.Copies.{copies_go_on, copies_start, elements_keep}
use Rattle.spec_beside.proofs.Rows.{rows_keep}

-- what a step leaves has the byte as it was, and a copy in progress that writes beside it
pub record Keeps (b : ℕ) (before : List ℕ) (a : Advanced) : Type 0 where
  pub image : get_or a.image b 0 ≡ get_or before b 0
  pub copy : IfCopies (CopyBeside b) a.position.copy

module _ (program : ProgramRungs) (position : Position) (image : List ℕ) (now : ℕ) (first : Bool) (flags : Flags) (b : ℕ) where
  by_control : (on : Bool) (im : List ℕ) (fl : Flags) (d : Control) (f : Frame) (outer : List Frame) → get_or im b 0 ≡ get_or image b 0 → ((c : Copying) → d ≡ StartCopy c → CopyBeside b c) → Keeps b image (after_row program position image now first flags (record { on = on; image = im; flags = fl; control = d }) f outer)
  by_control on im fl Nothing f outer h k = record { image = h; copy = tt }
  by_control on im fl (Call n inputs returns) f outer h k = record { image = h; copy = tt }
  by_control on im fl Return f outer h k = record { image = h; copy = tt }
  by_control on im fl (Jump label) f outer h k = record { image = h; copy = tt }
  by_control on im fl ToggleZone f outer h k = record { image = h; copy = tt }
  by_control on im fl Up f outer h k = record { image = h; copy = tt }
  by_control on im fl Down f outer h k = record { image = h; copy = tt }
  by_control on im fl (TriggerTask t) f outer h k = record { image = h; copy = tt }
  by_control on im fl (StartCopy c) f outer h k = record { image = h; copy = k c refl }
  by_control on im fl MinorFault f outer h k = record { image = h; copy = tt }
  by_control on im fl (MajorFault code) f outer h k = record { image = h; copy = tt }

  by_frame : (f : Frame) (outer : List Frame) (rest : Tree Ins) → FirstHas (ExecutesBeside b position.frames) rest → Keeps b image (in_frame program position image now first flags f outer rest)
  by_frame f outer (one i rest) h =
      let r = row i.op i.args f.cursor.on now first position.frames flags image in
      by_control r.on r.image r.flags r.control (record f { cursor = record f.cursor { rest = rest; on = r.on } }) outer
      (rows_keep i f.cursor.on now first position.frames flags image b h.fit h.written h.returns)
      (λ c is. copies_start i f.cursor.on now first position.frames flags image b c h.fit h.written is)
  by_frame f outer end h = record { image = refl; copy = tt }
  by_frame f outer (fork t legs rest) h = record { image = refl; copy = tt }

  by_frames : (fs : List Frame) → NextHas (ExecutesBeside b position.frames) fs → Keeps b image (in_frames program position image now first flags fs)
  by_frames [] h = record { image = refl; copy = tt }
  by_frames (f ∷ outer) h = by_frame f outer f.cursor.rest h

  abbrev rest_of : Copying → Bool → Option Copying
  rest_of c true = Some (after_element c)
  rest_of c false = None

  goes_on : (c : Copying) → CopyBeside b c → (more : Bool) → nat_lt 1 c.left ≡ more → IfCopies (CopyBeside b) (rest_of c more)
  goes_on c h true e = copies_go_on c b h (ltb-true 1 c.left e)
  goes_on c h false e = tt

  by_copy : (o : Option Copying) → GoesBeside b position.frames o → Keeps b image (in_progress program position image now first flags o)
  by_copy None h = by_frames position.frames h
  by_copy (Some c) h = record { image = elements_keep c image b h; copy = goes_on c h (nat_lt 1 c.left) refl }

pub steps_write_beside : StepsWriteBeside
steps_write_beside program position image now first flags b h = (by_copy program position image now first flags b position.copy h).image

pub steps_copy_beside : StepsCopyBeside
steps_copy_beside program position image now first flags b h = (by_copy program position image now first flags b position.copy h).copy
