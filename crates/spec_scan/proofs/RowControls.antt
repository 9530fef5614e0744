-- What a row asks for, of which this holds: it holds of a call, of a triggered task and of a copy that starts, if it holds of all
-- else.
use Rattle.std.proofs.Common.{◌≡◌, ℕ, ◌||◌, Bool, true, false, if◌then◌else◌, List, length, map, ℤ, Option, Some, None, refl}
use Rattle.std.specs.Prelude.{nat_lt, ⊤}
use Rattle.spec_base.specs.declared.limits.TheConstants.{MAX_FRAMES}
use Rattle.spec_tables.specs.declared.fault.TheConstants.{BAD_SUBSCRIPT, MISSING_PARAMETERS, BAD_TIMER, TOO_DEEP}
use Rattle.lgx_num.specs.declared.place.Flags.{Flags}
use Rattle.lgx_num.specs.declared.place.Operand.{Operand}
use Rattle.lgx_num.specs.declared.place.Place.{Place}
use Rattle.lgx_rung.specs.declared.op.Op.{Op}
use Rattle.lgx_rung.specs.declared.op.Op.TheVariants.{Jsr, Sbr, Ret, Tnd, Jmp, Mcr, Uid, Uie, Event}
use Rattle.lgx_rung.specs.declared.operands.Family.{Family}
use Rattle.lgx_rung.specs.declared.operands.Family.TheVariants.{Timer, Arithmetic, Copy, ProgramControl}
use Rattle.lgx_rung.specs.OperandTable.{family_of}
use Rattle.spec_scan.specs.declared.bound.Arg.{Arg}
use Rattle.spec_scan.specs.declared.bound.Copying.{Copying}
use Rattle.spec_scan.specs.Arguments.{bind, arg, place_of, byte_of, value_of}
use Rattle.spec_scan.specs.Arithmetic.{math}
use Rattle.spec_scan.specs.Copies.{start_copy}
use Rattle.spec_scan.specs.Instructions.{Control, Nothing, Call, Return, Jump, ToggleZone, Up, Down, TriggerTask, StartCopy, MinorFault, MajorFault, row, target, acts_when_false, pass_on, timer_row, copy_row, store_row, program_control, family_row, with_bound}
use Rattle.spec_scan.specs.Parameters.{inputs_of, returns_of, inputs_handed, returns_wanted, store_all}
use Rattle.spec_scan.specs.Position.{Frame}
use Rattle.spec_scan.specs.Timers.{timer}

-- neither a call nor a trigger nor a copy
abbrev pub IsOther : Control → Type 0
IsOther (Call n inputs returns) = ⊥
IsOther (TriggerTask t) = ⊥
IsOther (StartCopy c) = ⊥
IsOther _ = ⊤

module _ (P : Control → Type 0) (other : (d : Control) → IsOther d → P d) (args : List Operand) (on : Bool) (now : ℕ) (first : Bool) (frames : List Frame) (flags : Flags) (image : List ℕ) where
  timer_asks : (o : Option (List ℕ)) → P (timer_row args on now first frames flags image o).control
  timer_asks (Some after) = other Nothing tt
  timer_asks None = other (MajorFault BAD_TIMER) tt

  math_asks : (overflows : Bool) → P (if overflows then MinorFault else Nothing)
  math_asks true = other MinorFault tt
  math_asks false = other Nothing tt

  copy_asks : (o : Option Copying) → ((c : Copying) → o ≡ Some c → P (StartCopy c)) → P (copy_row args on now first frames flags image o).control
  copy_asks (Some c) starts = starts c refl
  copy_asks None starts = other Nothing tt

  -- what a JSR asks for, if it finds a frame
  abbrev pub call_of : List Arg → Control
  call_of bound = Call (target args) (inputs_of bound image) (returns_of bound)

  call_asks : (room : Bool) (bound : List Arg) → P (call_of bound) → P (if room then pass_on args on now first frames flags image (call_of bound) else pass_on args on now first frames flags image (MajorFault TOO_DEEP)).control
  call_asks true bound holds = holds
  call_asks false bound holds = other (MajorFault TOO_DEEP) tt

  store_asks : (places : List Place) (numbers : List ℤ) (control : Control) → P control → P (store_row args on now first frames flags image places numbers control).control
  store_asks places numbers control holds = go (nat_lt (length numbers) (length places))
    where
      go : (missing : Bool) → P (if missing then pass_on args on now first frames flags image (MajorFault MISSING_PARAMETERS) else record { on = on; image = store_all image places numbers; flags = flags; control = control }).control
      go true = other (MajorFault MISSING_PARAMETERS) tt
      go false = holds

  -- of a call, of a trigger and of a copy it holds
  pub record Asks (op : Op) (bound : List Arg) : Type 0 where
    pub call : op ≡ Jsr → P (call_of bound)
    pub trigger : op ≡ Event → P (TriggerTask (target args))
    pub copy : family_of op ≡ Copy → (c : Copying) → start_copy op bound image ≡ Some c → P (StartCopy c)

  control_asks : (op : Op) (bound : List Arg) → Asks op bound → P (program_control args on now first frames flags image op bound).control
  control_asks Jsr bound asks = call_asks (nat_lt (length frames) MAX_FRAMES) bound (asks.call refl)
  control_asks Sbr bound asks = store_asks (map place_of bound) (inputs_handed frames) Nothing (other Nothing tt)
  control_asks Ret bound asks = store_asks (returns_wanted frames) (map (value_of image) bound) Return (other Return tt)
  control_asks Tnd bound asks = other Return tt
  control_asks Jmp bound asks = other (Jump (target args)) tt
  control_asks Mcr bound asks = other ToggleZone tt
  control_asks Uid bound asks = other Up tt
  control_asks Uie bound asks = other Down tt
  control_asks Event bound asks = asks.trigger refl
  control_asks _ bound asks = other Nothing tt

  family_asks : (f : Family) (op : Op) (bound : List Arg) → family_of op ≡ f → Asks op bound → P (family_row args on now first frames flags image f op bound).control
  family_asks Timer op bound is asks = timer_asks (timer op (byte_of (arg bound 0)) on now image)
  family_asks Arithmetic op bound is asks = math_asks (math op bound image).flags.v
  family_asks Copy op bound is asks = copy_asks (start_copy op bound image) (asks.copy is)
  family_asks ProgramControl op bound is asks = control_asks op bound asks
  family_asks _ op bound is asks = other Nothing tt

  bound_asks : (op : Op) (o : Option (List Arg)) → ((bound : List Arg) → o ≡ Some bound → Asks op bound) → P (with_bound args on now first frames flags image op o).control
  bound_asks op (Some bound) asks = family_asks (family_of op) op bound refl (asks bound refl)
  bound_asks op None asks = other (MajorFault BAD_SUBSCRIPT) tt

  pub row_asks : (op : Op) → ((bound : List Arg) → bind image args ≡ Some bound → Asks op bound) → P (row op args on now first frames flags image).control
  row_asks op asks = go (on || acts_when_false op)
    where
      go : (acts : Bool) → P (if acts then with_bound args on now first frames flags image op (bind image args) else pass_on args on now first frames flags image Nothing).control
      go true = bound_asks op (bind image args) asks
      go false = other Nothing tt
