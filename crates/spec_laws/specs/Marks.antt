-- The law of marks: a step that executes an instruction shows the mark of what the instruction means for tasks and copies, and
-- no other step shows one but that of a copy's last element.
use Rattle.std.specs.Prelude.{◌≡◌, ℕ, List, [], ◌∷◌, pos, Bool, true, false, ◌&&◌, nat_lt, nat_le, int_lt, if◌then◌else◌, Option, Some, None, ⊤}
use Rattle.std.specs.List.{AllByRecursion}
use Rattle.lgx_num.specs.declared.place.Operand.{Operand}
use Rattle.lgx_num.specs.declared.place.Operand.TheVariants.{Task}
use Rattle.lgx_rung.specs.declared.ins.Ins.{Ins}
use Rattle.lgx_rung.specs.declared.op.Op.{Op}
use Rattle.lgx_rung.specs.declared.op.Op.TheVariants.{Cop, Cps, Fll, Uid, Uie, Event}
use Rattle.spec_scan.specs.declared.bound.Arg.{Arg}
use Rattle.spec_scan.specs.declared.bound.Copying.{Copying}
use Rattle.spec_scan.specs.Arguments.{arg, bind, room_of, size_of, value_of}
use Rattle.spec_scan.specs.Position.{Frame}
use Rattle.spec_machine.specs.declared.answer.Mark.{Mark}
use Rattle.spec_machine.specs.declared.answer.Mark.TheVariants.{Plain, Up, Down, Trigger, CopyStart, CopyEnd}
use Rattle.spec_machine.specs.declared.answer.What.{What}
use Rattle.spec_machine.specs.declared.answer.What.TheVariants.{Ran, Copied}
use Rattle.spec_machine.specs.declared.event.Event.{Event as Events}
use Rattle.spec_machine.specs.Machine.{TraceEntry, OfStep}
use Rattle.spec_machine.specs.Project.{Project}
use Rattle.spec_machine.specs.State.{State}
use Rattle.spec_schedule.specs.Stages.{Stage, stages, scan_in_progress, copy_in}
use Rattle.spec_uses.specs.Changes.{next_of}

-- the condition before the next instruction of the scan of task t
abbrev pub condition_in : List Frame → Bool
condition_in [] = false
condition_in (f ∷ outer) = f.cursor.on

abbrev pub condition_at : State → ℕ → Bool
condition_at s t = elim (scan_in_progress s t) [ None ↦ false | Some scan ↦ condition_in scan.position.frames ]

-- ---- copies

-- there is room for one element of `size` bytes up to the end of the operand's tag
abbrev pub has_room : ℕ → Arg → Bool
has_room size a = nat_lt 0 size && nat_le size (room_of a)

-- Something is to be copied: the length asks for an element, and the destination has room for one. But for a fill, the
-- source has one too.
abbrev pub asks_element : List Arg → List ℕ → Bool
asks_element args image = int_lt (pos 0) (value_of image (arg args 2)) && has_room (size_of (arg args 1)) (arg args 1)

abbrev pub has_element : Op → List Arg → List ℕ → Bool
has_element Fll args image = asks_element args image
has_element _ args image = asks_element args image && has_room (size_of (arg args 1)) (arg args 0)

-- a subscript out of range is a fault, and nothing is copied
abbrev pub copy_shown : Bool → Op → List ℕ → Option (List Arg) → Mark
copy_shown sync op image None = Plain
copy_shown sync op image (Some args) = if has_element op args image then CopyStart sync else Plain

-- ---- an instruction

abbrev pub event_shown : List Operand → Mark
event_shown (Task t ∷ []) = Trigger t
event_shown _ = Plain

-- what an instruction with a true condition shows
abbrev pub shown : Op → List Operand → List ℕ → Mark
shown Uid args image = Up
shown Uie args image = Down
shown Event args image = event_shown args
shown Cop args image = copy_shown false Cop image (bind image args)
shown Cps args image = copy_shown true Cps image (bind image args)
shown Fll args image = copy_shown false Fll image (bind image args)
shown _ args image = Plain

-- and what it shows by its condition
abbrev pub shown_if : Bool → Op → List Operand → List ℕ → Mark
shown_if true op args image = shown op args image
shown_if false op args image = Plain

-- the scan of the task has a next instruction, and the mark is what that shows
pub record ShowsMark (s : State) (t : ℕ) (mark : Mark) : Type 0 where
  pub ins : Ins
  pub next : next_of s t ≡ Some ins
  pub shows : mark ≡ shown_if (condition_at s t) ins.op ins.args s.image

-- ---- a step

-- the last element of the copy in progress ends it
abbrev pub element_shown : Option Copying → Mark
element_shown None = Plain
element_shown (Some c) = if nat_le c.left 1 then CopyEnd c.sync else Plain

abbrev pub IsMarked : State → What → Mark → Type 0
IsMarked s (Ran t n) mark = ShowsMark s t mark
IsMarked s (Copied t n) mark = mark ≡ element_shown (copy_in s t)
IsMarked s _ mark = mark ≡ Plain

abbrev pub KeepsMarks : Stage → Type 0
KeepsMarks x = go x.entry
  where
    go : TraceEntry → Type 0
    go (OfStep m) = IsMarked x.before m.what m.mark
    go _ = ⊤

abbrev pub StepsAreMarked : Project → Type 0
StepsAreMarked p = (journal : List Events) → AllByRecursion KeepsMarks (stages p journal)
