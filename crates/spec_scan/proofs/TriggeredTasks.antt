-- A step of rungs that know their tasks triggers one of these.
use Rattle.std.proofs.Common.{ℕ, ◌<◌, Bool, List, [], ◌∷◌, Option, Some, None, subst}
use Rattle.std.specs.Prelude.{⊤}
use Rattle.std.specs.List.{AllByRecursion as Each}
use Rattle.lgx_num.specs.declared.place.Flags.{Flags}
use Rattle.lgx_num.specs.declared.place.Operand.{Operand}
use Rattle.lgx_num.specs.declared.place.Operand.TheVariants as operand
use Rattle.lgx_rung.specs.declared.ins.Ins.{Ins}
use Rattle.lgx_rung.specs.declared.op.Op.{Op}
use Rattle.lgx_rung.specs.declared.op.Op.TheVariants.{Event}
use Rattle.lgx_rung.specs.declared.operands.OperandKind.{OperandKind}
use Rattle.lgx_rung.specs.declared.operands.OperandKind.TheVariants.{EventTask}
use Rattle.lgx_rung.specs.Tree.{Tree, end, one, fork}
use Rattle.spec_scan.specs.declared.bound.Copying.{Copying}
use Rattle.spec_scan.specs.Executable.{IsExecutable}
use Rattle.spec_scan.specs.Fits.{AllFit, OperandsFit}
use Rattle.spec_scan.specs.Instructions.{Control, Nothing, Call, Return, Jump, ToggleZone, Up, Down, TriggerTask, StartCopy, MinorFault, MajorFault, Row, row, target}
use Rattle.spec_scan.specs.KnownTasks.{KnowsTask, NamesKnownTasks, TriggersKnownTask}
use Rattle.spec_scan.specs.Position.{ProgramRungs, Frame, Position}
use Rattle.spec_scan.specs.Next.{FirstHas, NextHas}
use Rattle.spec_scan.specs.Returns.{NextIsExecutable}
use Rattle.spec_scan.specs.Scan.{after_row, in_frame, in_frames, in_progress, advance}
use Rattle.spec_scan.proofs.KeptKinds.{fixed_first}
use Rattle.spec_scan.proofs.RowControls.{IsOther, row_asks}

-- a row that triggers a task triggers one of so many
abbrev AsksKnownTask : ℕ → Control → Type 0
AsksKnownTask count (TriggerTask t) = t < count
AsksKnownTask count _ = ⊤

other_asks : (count : ℕ) (d : Control) → IsOther d → AsksKnownTask count d
other_asks count (TriggerTask t) h = absurd h
other_asks count _ h = tt

-- the operand of an EVENT is a task, one of so many
task_known : (count : ℕ) (further : List OperandKind) (args : List Operand) → AllFit (EventTask ∷ further) args → Each (KnowsTask count) args → target args < count
task_known count further [] fit known = absurd fit
task_known count further (operand.Task t ∷ os) fit known = known.0
task_known count further (_ ∷ os) fit known = absurd fit.0

target_known : (count : ℕ) (args : List Operand) → OperandsFit Event args → Each (KnowsTask count) args → target args < count
target_known count args fit known = let first = fixed_first Event args fit in task_known count first.0 args first.1 known

instruction_asks : (i : Ins) (on : Bool) (now : ℕ) (first : Bool) (frames : List Frame) (flags : Flags) (image : List ℕ) (len count : ℕ) → IsExecutable len i → NamesKnownTasks count i → AsksKnownTask count (row i.op i.args on now first frames flags image).control
instruction_asks i on now first frames flags image len count can known =
    row_asks (AsksKnownTask count) (other_asks count) i.args on now first frames flags image i.op (λ args found. record {
      call = λ is. tt;
      trigger = λ is. target_known count i.args (subst (λ (op : Op). OperandsFit op i.args) is can.fit) known;
      copy = λ is c started. tt;
    })

-- ---- a step

module _ (program : ProgramRungs) (position : Position) (image : List ℕ) (now : ℕ) (first : Bool) (flags : Flags) (len count : ℕ) where
  after_triggers : (r : Row) (f : Frame) (outer : List Frame) → AsksKnownTask count r.control → TriggersKnownTask count (after_row program position image now first flags r f outer).effect
  after_triggers r f outer known = go r.control known
    where
      go : (control : Control) → AsksKnownTask count control → TriggersKnownTask count (after_row program position image now first flags (record r { control = control }) f outer).effect
      go Nothing h = tt
      go (Call n inputs returns) h = tt
      go Return h = tt
      go (Jump label) h = tt
      go ToggleZone h = tt
      go Up h = tt
      go Down h = tt
      go (TriggerTask t) h = h
      go (StartCopy c) h = tt
      go MinorFault h = tt
      go (MajorFault code) h = tt

  frame_triggers : (f : Frame) (outer : List Frame) (rest : Tree Ins) → FirstHas (IsExecutable len) rest → FirstHas (NamesKnownTasks count) rest
      → TriggersKnownTask count (in_frame program position image now first flags f outer rest).effect
  frame_triggers f outer (one i rest) can known =
      let r = row i.op i.args f.cursor.on now first position.frames flags image in
      after_triggers r (record f { cursor = record f.cursor { rest = rest; on = r.on } }) outer (instruction_asks i f.cursor.on now first position.frames flags image len count can known)
  frame_triggers f outer end can known = tt
  frame_triggers f outer (fork t legs rest) can known = tt

  frames_trigger : (frames : List Frame) → NextIsExecutable len frames → NextHas (NamesKnownTasks count) frames → TriggersKnownTask count (in_frames program position image now first flags frames).effect
  frames_trigger [] can known = tt
  frames_trigger (f ∷ outer) can known = frame_triggers f outer f.cursor.rest can known

  step_triggers : (copy : Option Copying) → NextIsExecutable len position.frames → NextHas (NamesKnownTasks count) position.frames → TriggersKnownTask count (in_progress program position image now first flags copy).effect
  step_triggers (Some c) can known = tt
  step_triggers None can known = frames_trigger position.frames can known

pub steps_trigger_known_tasks : (program : ProgramRungs) (position : Position) (image : List ℕ) (now : ℕ) (first : Bool) (flags : Flags) (len count : ℕ)
    → NextIsExecutable len position.frames → NextHas (NamesKnownTasks count) position.frames → TriggersKnownTask count (advance program position image now first flags).effect
steps_trigger_known_tasks program position image now first flags len count can known = step_triggers program position image now first flags len count position.copy can known
