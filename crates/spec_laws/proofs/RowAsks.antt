-- What the row of an instruction asks for: nothing, a fault, or what is its own to ask for.
use Rattle.std.proofs.Common.{◌≡◌, ℕ, ◌||◌, Bool, true, false, if◌then◌else◌, List, length, map, ℤ, Option, Some, None, refl}
use Rattle.std.specs.Prelude.{nat_lt, ⊤}
use Rattle.spec_base.specs.declared.limits.TheConstants.{MAX_FRAMES}
use Rattle.spec_tables.specs.declared.fault.TheConstants.{BAD_SUBSCRIPT, MISSING_PARAMETERS, BAD_TIMER, TOO_DEEP}
use Rattle.lgx_num.specs.declared.place.Flags.{Flags}
use Rattle.lgx_num.specs.declared.place.Operand.{Operand}
use Rattle.lgx_num.specs.declared.place.Place.{Place}
use Rattle.lgx_rung.specs.declared.op.Op.{Op}
use Rattle.lgx_rung.specs.declared.op.Op.TheVariants.{Ton, Rto, Tof, Add, Sub, Mul, Div, Mod, Neg, Abs, Mov, And, Or, Xor, Not, Mvm, Clr, Cop, Cps, Fll, Jsr, Sbr, Ret, Tnd, Jmp, Mcr, Uid, Uie, Event}
use Rattle.spec_scan.specs.declared.bound.Arg.{Arg}
use Rattle.spec_scan.specs.declared.bound.Copying.{Copying}
use Rattle.spec_scan.specs.Arguments.{bind, arg, place_of, byte_of, value_of}
use Rattle.spec_scan.specs.Arithmetic.{math}
use Rattle.spec_scan.specs.Copies.{start_copy}
use Rattle.spec_scan.specs.Instructions.{Control, Nothing, Call, Return, Jump, ToggleZone, Up, Down, TriggerTask, StartCopy, MinorFault, MajorFault, row, target, acts_when_false, pass_on, timer_row, copy_row, executed, with_bound}
use Rattle.spec_scan.specs.Parameters.{inputs_of, returns_of, inputs_handed, returns_wanted, store_all}
use Rattle.spec_scan.specs.Position.{Frame}
use Rattle.spec_scan.specs.Timers.{timer}

module _ (Q : Control → Type 0) (none : Q Nothing) (minor : Q MinorFault) (major : (code : ℕ) → Q (MajorFault code)) (args : List Operand) (on : Bool) (now : ℕ) (first : Bool) (frames : List Frame) (flags : Flags) (image : List ℕ) where
  -- it holds of what the instruction asks for beside nothing and faults
  abbrev pub Own : Op → Type 0
  Own Jsr = (bound : List Arg) → Q (Call (target args) (inputs_of bound image) (returns_of bound))
  Own Ret = Q Return
  Own Tnd = Q Return
  Own Jmp = Q (Jump (target args))
  Own Mcr = Q ToggleZone
  Own Uid = Q Up
  Own Uie = Q Down
  Own Event = Q (TriggerTask (target args))
  Own Cop = (c : Copying) → Q (StartCopy c)
  Own Cps = (c : Copying) → Q (StartCopy c)
  Own Fll = (c : Copying) → Q (StartCopy c)
  Own _ = ⊤

  by_timer : (o : Option (List ℕ)) → Q (timer_row args on now first frames flags image o).control
  by_timer (Some after) = none
  by_timer None = major BAD_TIMER

  by_math : (overflows : Bool) → Q (if overflows then MinorFault else Nothing)
  by_math true = minor
  by_math false = none

  by_copy : (o : Option Copying) → ((c : Copying) → Q (StartCopy c)) → Q (copy_row args on now first frames flags image o).control
  by_copy (Some c) h = h c
  by_copy None h = none

  by_call : (room : Bool) (d : Control) → Q d → Q (if room then pass_on args on now first frames flags image d else pass_on args on now first frames flags image (MajorFault TOO_DEEP)).control
  by_call true d h = h
  by_call false d h = major TOO_DEEP

  by_store : (places : List Place) (numbers : List ℤ) (d : Control) (missing : Bool) → Q d → Q (if missing then pass_on args on now first frames flags image (MajorFault MISSING_PARAMETERS) else record { on = on; image = store_all image places numbers; flags = flags; control = d }).control
  by_store places numbers d true h = major MISSING_PARAMETERS
  by_store places numbers d false h = h

  by_executed : (op : Op) (bound : List Arg) → Own op → Q (executed args on now first frames flags image op bound).control
  by_executed Ton bound h = by_timer (timer Ton (byte_of (arg bound 0)) on now image)
  by_executed Rto bound h = by_timer (timer Rto (byte_of (arg bound 0)) on now image)
  by_executed Tof bound h = by_timer (timer Tof (byte_of (arg bound 0)) on now image)
  by_executed Add bound h = by_math (math Add bound image).flags.v
  by_executed Sub bound h = by_math (math Sub bound image).flags.v
  by_executed Mul bound h = by_math (math Mul bound image).flags.v
  by_executed Div bound h = by_math (math Div bound image).flags.v
  by_executed Mod bound h = by_math (math Mod bound image).flags.v
  by_executed Neg bound h = by_math (math Neg bound image).flags.v
  by_executed Abs bound h = by_math (math Abs bound image).flags.v
  by_executed Mov bound h = by_math (math Mov bound image).flags.v
  by_executed And bound h = by_math (math And bound image).flags.v
  by_executed Or bound h = by_math (math Or bound image).flags.v
  by_executed Xor bound h = by_math (math Xor bound image).flags.v
  by_executed Not bound h = by_math (math Not bound image).flags.v
  by_executed Mvm bound h = by_math (math Mvm bound image).flags.v
  by_executed Clr bound h = by_math (math Clr bound image).flags.v
  by_executed Cop bound h = by_copy (start_copy Cop bound image) h
  by_executed Cps bound h = by_copy (start_copy Cps bound image) h
  by_executed Fll bound h = by_copy (start_copy Fll bound image) h
  by_executed Jsr bound h = by_call (nat_lt (length frames) MAX_FRAMES) (Call (target args) (inputs_of bound image) (returns_of bound)) (h bound)
  by_executed Sbr bound h = by_store (map place_of bound) (inputs_handed frames) Nothing (nat_lt (length (inputs_handed frames)) (length (map place_of bound))) none
  by_executed Ret bound h = by_store (returns_wanted frames) (map (value_of image) bound) Return (nat_lt (length (map (value_of image) bound)) (length (returns_wanted frames))) h
  by_executed Tnd bound h = h
  by_executed Jmp bound h = h
  by_executed Mcr bound h = h
  by_executed Uid bound h = h
  by_executed Uie bound h = h
  by_executed Event bound h = h
  by_executed _ bound h = none

  by_bound : (op : Op) (o : Option (List Arg)) → Own op → Q (with_bound args on now first frames flags image op o).control
  by_bound op (Some bound) h = by_executed op bound h
  by_bound op None h = major BAD_SUBSCRIPT

  pub row_asks_own : (op : Op) → ((on || acts_when_false op) ≡ true → Own op) → Q (row op args on now first frames flags image).control
  row_asks_own op own = go (on || acts_when_false op) own
    where
      go : (acts : Bool) → (acts ≡ true → Own op) → Q (if acts then with_bound args on now first frames flags image op (bind image args) else pass_on args on now first frames flags image Nothing).control
      go true h = by_bound op (bind image args) (h refl)
      go false h = none
