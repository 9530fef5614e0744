-- The copy in progress before and after a step of a scan, by the step's effect.
use Rattle.std.proofs.Common.{◌≡◌, ℕ, Bool, true, false, List, [], ◌∷◌, Option, Some, None, refl}
use Rattle.std.specs.Prelude.{nat_lt, nat_le}
use Rattle.std.proofs.lemmas.Bool.{ltb-true, ltb-false, lt-leb, le-leb}
use Rattle.lgx_num.specs.declared.place.Flags.{Flags}
use Rattle.lgx_rung.specs.Tree.{Tree, end, one, fork}
use Rattle.lgx_rung.specs.declared.ins.Ins.{Ins}
use Rattle.spec_scan.specs.declared.bound.Copying.{Copying}
use Rattle.spec_scan.specs.declared.bound.Effect.{Effect}
use Rattle.spec_scan.specs.declared.bound.Effect.TheVariants.{CopyStart, Copied}
use Rattle.spec_scan.specs.Copies.{after_element}
use Rattle.spec_scan.specs.Instructions.{Control, Nothing, Call, Return, Jump, ToggleZone, Up, Down, TriggerTask, StartCopy, MinorFault, MajorFault, row}
use Rattle.spec_scan.specs.Position.{ProgramRungs, Frame, Position}
use Rattle.spec_scan.specs.Scan.{Advanced, after_row, in_frame, in_frames, in_progress, advance}

-- whether a copy in progress is a CPS's
abbrev pub kind_of : Option Copying → Option Bool
kind_of None = None
kind_of (Some c) = Some c.sync

-- what an effect tells of the copy in progress before it and after it
abbrev pub EffectKinds : Option Bool → Effect → Option Bool → Type 0
EffectKinds before (CopyStart sync) after = (before ≡ None) × (after ≡ Some sync)
EffectKinds before (Copied true sync) after = (before ≡ Some sync) × (after ≡ None)
EffectKinds before (Copied false sync) after = (before ≡ Some sync) × (after ≡ Some sync)
EffectKinds before _ after = (before ≡ None) × (after ≡ None)

abbrev StepKinds : Option Copying → Advanced → Type 0
StepKinds before a = EffectKinds (kind_of before) a.effect (kind_of a.position.copy)

module _ (program : ProgramRungs) (position : Position) (image : List ℕ) (now : ℕ) (first : Bool) (flags : Flags) where
  by_control : (on : Bool) (im : List ℕ) (fl : Flags) (d : Control) (f : Frame) (outer : List Frame) → StepKinds None (after_row program position image now first flags (record { on = on; image = im; flags = fl; control = d }) f outer)
  by_control on im fl Nothing f outer = (refl, refl)
  by_control on im fl (Call n inputs returns) f outer = (refl, refl)
  by_control on im fl Return f outer = (refl, refl)
  by_control on im fl (Jump label) f outer = (refl, refl)
  by_control on im fl ToggleZone f outer = (refl, refl)
  by_control on im fl Up f outer = (refl, refl)
  by_control on im fl Down f outer = (refl, refl)
  by_control on im fl (TriggerTask t) f outer = (refl, refl)
  by_control on im fl (StartCopy c) f outer = (refl, refl)
  by_control on im fl MinorFault f outer = (refl, refl)
  by_control on im fl (MajorFault code) f outer = (refl, refl)

  by_frame : (f : Frame) (outer : List Frame) (rest : Tree Ins) → StepKinds None (in_frame program position image now first flags f outer rest)
  by_frame f outer (one i rest) =
      let r = row i.op i.args f.cursor.on now first position.frames flags image in
      by_control r.on r.image r.flags r.control (record f { cursor = record f.cursor { rest = rest; on = r.on } }) outer
  by_frame f outer end = (refl, refl)
  by_frame f outer (fork t legs rest) = (refl, refl)

  by_frames : (fs : List Frame) → StepKinds None (in_frames program position image now first flags fs)
  by_frames [] = (refl, refl)
  by_frames (f ∷ outer) = by_frame f outer f.cursor.rest

  abbrev rest_of : Copying → Bool → Option Copying
  rest_of c true = Some (after_element c)
  rest_of c false = None

  by_left : (c : Copying) (more done : Bool) → ((more ≡ true) × (done ≡ false)) → EffectKinds (Some c.sync) (Copied done c.sync) (kind_of (rest_of c more))
  by_left c true false h = (refl, refl)
  by_left c true true h = absurd (cc (h.1))
  by_left c false done h = absurd (cc (h.0))

  by_last : (c : Copying) (more done : Bool) → ((more ≡ false) × (done ≡ true)) → EffectKinds (Some c.sync) (Copied done c.sync) (kind_of (rest_of c more))
  by_last c false true h = (refl, refl)
  by_last c false false h = absurd (cc (h.1))
  by_last c true done h = absurd (cc (h.0))

  by_copy : (o : Option Copying) → StepKinds o (in_progress program position image now first flags o)
  by_copy None = by_frames position.frames
  by_copy (Some c) = go (nat_lt 1 c.left) refl
    where
      go : (b : Bool) → nat_lt 1 c.left ≡ b → EffectKinds (Some c.sync) (Copied (nat_le c.left 1) c.sync) (kind_of (rest_of c (nat_lt 1 c.left)))
      go true e = by_left c (nat_lt 1 c.left) (nat_le c.left 1) (e, lt-leb c.left 1 (ltb-true 1 c.left e))
      go false e = by_last c (nat_lt 1 c.left) (nat_le c.left 1) (e, le-leb c.left 1 (ltb-false 1 c.left e))

  pub step_kinds : EffectKinds (kind_of position.copy) (advance program position image now first flags).effect (kind_of (advance program position image now first flags).position.copy)
  step_kinds = by_copy position.copy
