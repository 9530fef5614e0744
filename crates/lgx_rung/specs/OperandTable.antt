-- What each instruction is and takes (1756-RM003): its family, and its operands in order. All that is said of instructions by
-- their operands goes by this table.
use Rattle.std.specs.Prelude.{ℕ, zero, suc, ◌+◌, ◌-◌, nat_le, if◌then◌else◌, List, [], ◌∷◌, ◌++◌, length, replicate, ℤ, pos, negsuc, Option, Some, None, option_map, option_and_then}
use Rattle.spec_base.specs.declared.limits.TheConstants.{MAX_PARAMETERS}
use Rattle.lgx_rung.specs.declared.op.Op.{Op}
use Rattle.lgx_rung.specs.declared.op.Op.TheVariants.{Xic, Xio, Ote, Otl, Otu, Ons, Osr, Osf, Ton, Rto, Tof, Ctu, Ctd, Res, Equ, Neq, Les, Leq, Grt, Geq, Lim, Meq, Add, Sub, Mul, Div, Mod, Neg, Abs, Mov, And, Or, Xor, Not, Mvm, Clr, Cop, Cps, Fll, Jsr, Sbr, Ret, Tnd, Jmp, Lbl, Mcr, Afi, Nop, Uid, Uie, Event}
use Rattle.lgx_rung.specs.declared.operands.Family.{Family}
use Rattle.lgx_rung.specs.declared.operands.Family.TheVariants.{Bit, Timer, Counter, Reset, Comparison, Arithmetic, Copy, ProgramControl}
use Rattle.lgx_rung.specs.declared.operands.OperandKind.{OperandKind}
use Rattle.lgx_rung.specs.declared.operands.OperandKind.TheVariants.{BoolPlace, BoolOrFlag, IntegerPlace, IntegerOrNumber, WholeTimer, WholeCounter, TimerOrCounter, CopySource, CopyTarget, FillTarget, QuestionMark, RoutineName, ParameterCount, JumpLabel, OwnLabel, EventTask}

-- the operands that each always has
abbrev pub fixed_kinds : Op → List OperandKind
fixed_kinds Xic = BoolOrFlag ∷ []
fixed_kinds Xio = BoolOrFlag ∷ []
fixed_kinds Ote = BoolPlace ∷ []
fixed_kinds Otl = BoolPlace ∷ []
fixed_kinds Otu = BoolPlace ∷ []
fixed_kinds Ons = BoolPlace ∷ []
fixed_kinds Osr = BoolPlace ∷ BoolPlace ∷ []
fixed_kinds Osf = BoolPlace ∷ BoolPlace ∷ []
fixed_kinds Ton = WholeTimer ∷ QuestionMark ∷ QuestionMark ∷ []
fixed_kinds Rto = WholeTimer ∷ QuestionMark ∷ QuestionMark ∷ []
fixed_kinds Tof = WholeTimer ∷ QuestionMark ∷ QuestionMark ∷ []
fixed_kinds Ctu = WholeCounter ∷ QuestionMark ∷ QuestionMark ∷ []
fixed_kinds Ctd = WholeCounter ∷ QuestionMark ∷ QuestionMark ∷ []
fixed_kinds Res = TimerOrCounter ∷ []
fixed_kinds Equ = IntegerOrNumber ∷ IntegerOrNumber ∷ []
fixed_kinds Neq = IntegerOrNumber ∷ IntegerOrNumber ∷ []
fixed_kinds Les = IntegerOrNumber ∷ IntegerOrNumber ∷ []
fixed_kinds Leq = IntegerOrNumber ∷ IntegerOrNumber ∷ []
fixed_kinds Grt = IntegerOrNumber ∷ IntegerOrNumber ∷ []
fixed_kinds Geq = IntegerOrNumber ∷ IntegerOrNumber ∷ []
fixed_kinds Lim = IntegerOrNumber ∷ IntegerOrNumber ∷ IntegerOrNumber ∷ []
fixed_kinds Meq = IntegerOrNumber ∷ IntegerOrNumber ∷ IntegerOrNumber ∷ []
fixed_kinds Add = IntegerOrNumber ∷ IntegerOrNumber ∷ IntegerPlace ∷ []
fixed_kinds Sub = IntegerOrNumber ∷ IntegerOrNumber ∷ IntegerPlace ∷ []
fixed_kinds Mul = IntegerOrNumber ∷ IntegerOrNumber ∷ IntegerPlace ∷ []
fixed_kinds Div = IntegerOrNumber ∷ IntegerOrNumber ∷ IntegerPlace ∷ []
fixed_kinds Mod = IntegerOrNumber ∷ IntegerOrNumber ∷ IntegerPlace ∷ []
fixed_kinds Neg = IntegerOrNumber ∷ IntegerPlace ∷ []
fixed_kinds Abs = IntegerOrNumber ∷ IntegerPlace ∷ []
fixed_kinds Mov = IntegerOrNumber ∷ IntegerPlace ∷ []
fixed_kinds And = IntegerOrNumber ∷ IntegerOrNumber ∷ IntegerPlace ∷ []
fixed_kinds Or = IntegerOrNumber ∷ IntegerOrNumber ∷ IntegerPlace ∷ []
fixed_kinds Xor = IntegerOrNumber ∷ IntegerOrNumber ∷ IntegerPlace ∷ []
fixed_kinds Not = IntegerOrNumber ∷ IntegerPlace ∷ []
fixed_kinds Mvm = IntegerOrNumber ∷ IntegerOrNumber ∷ IntegerPlace ∷ []
fixed_kinds Clr = IntegerPlace ∷ []
fixed_kinds Cop = CopySource ∷ CopyTarget ∷ IntegerOrNumber ∷ []
fixed_kinds Cps = CopySource ∷ CopyTarget ∷ IntegerOrNumber ∷ []
fixed_kinds Fll = IntegerOrNumber ∷ FillTarget ∷ IntegerOrNumber ∷ []
fixed_kinds Jsr = RoutineName ∷ []
fixed_kinds Sbr = []
fixed_kinds Ret = []
fixed_kinds Tnd = []
fixed_kinds Jmp = JumpLabel ∷ []
fixed_kinds Lbl = OwnLabel ∷ []
fixed_kinds Mcr = []
fixed_kinds Afi = []
fixed_kinds Nop = []
fixed_kinds Uid = []
fixed_kinds Uie = []
fixed_kinds Event = EventTask ∷ []

-- ---- the operands that may follow them

-- the number of inputs that a number gives, if a call may have as many
abbrev pub as_count : ℤ → Option ℕ
as_count (pos n) = if nat_le n MAX_PARAMETERS then Some n else None
as_count (negsuc n) = None

-- `given` of a kind, if an instruction may have as many
abbrev pub parameters : OperandKind → ℕ → Option (List OperandKind)
parameters kind given = if nat_le given MAX_PARAMETERS then Some (replicate given kind) else None

-- what follows a count of inputs: as many inputs, and then returns. Without a count nothing says which are which.
abbrev pub handed_kinds : (count : Option ℕ) → ℕ → Option (List OperandKind)
handed_kinds (Some n) given =
    if nat_le n given
    then option_map (λ returns. replicate n IntegerOrNumber ++ returns) (parameters IntegerPlace (given - n))
    else None
handed_kinds None given =
    if nat_le given (MAX_PARAMETERS + MAX_PARAMETERS) then Some (replicate given IntegerOrNumber) else None

-- what may follow the operands that an instruction always has: nothing, parameters of a kind, or a count with what a
-- call hands over
pub data Further : Type 0 where
  NoMore : Further
  Parameters : OperandKind → Further
  HandedOver : Further

abbrev pub further : Op → Further
further Jsr = HandedOver
further Sbr = Parameters IntegerPlace
further Ret = Parameters IntegerOrNumber
further _ = NoMore

abbrev pub further_kinds : Further → (count : Option ℕ) → (given : ℕ) → Option (List OperandKind)
further_kinds NoMore count zero = Some []
further_kinds NoMore count (suc given) = None
further_kinds (Parameters kind) count given = parameters kind given
further_kinds HandedOver count zero = Some []
further_kinds HandedOver count (suc given) = option_map (λ kinds. ParameterCount ∷ kinds) (handed_kinds count given)

-- The kinds of `given` operands, in order, unless an instruction has more or fewer. `second` is the number that the second operand
-- is, if it is one: of a JSR it is the count of the inputs.
abbrev pub operand_kinds : Op → (second : Option ℤ) → (given : ℕ) → Option (List OperandKind)
operand_kinds op second given =
    let always = fixed_kinds op in
    let count = option_and_then as_count second in
    if nat_le (length always) given
    then option_map (λ kinds. always ++ kinds) (further_kinds (further op) count (given - length always))
    else None

-- ---- families

abbrev pub family_of : Op → Family
family_of Xic = Bit
family_of Xio = Bit
family_of Ote = Bit
family_of Otl = Bit
family_of Otu = Bit
family_of Ons = Bit
family_of Osr = Bit
family_of Osf = Bit
family_of Ton = Timer
family_of Rto = Timer
family_of Tof = Timer
family_of Ctu = Counter
family_of Ctd = Counter
family_of Res = Reset
family_of Equ = Comparison
family_of Neq = Comparison
family_of Les = Comparison
family_of Leq = Comparison
family_of Grt = Comparison
family_of Geq = Comparison
family_of Lim = Comparison
family_of Meq = Comparison
family_of Add = Arithmetic
family_of Sub = Arithmetic
family_of Mul = Arithmetic
family_of Div = Arithmetic
family_of Mod = Arithmetic
family_of Neg = Arithmetic
family_of Abs = Arithmetic
family_of Mov = Arithmetic
family_of And = Arithmetic
family_of Or = Arithmetic
family_of Xor = Arithmetic
family_of Not = Arithmetic
family_of Mvm = Arithmetic
family_of Clr = Arithmetic
family_of Cop = Copy
family_of Cps = Copy
family_of Fll = Copy
family_of Jsr = ProgramControl
family_of Sbr = ProgramControl
family_of Ret = ProgramControl
family_of Tnd = ProgramControl
family_of Jmp = ProgramControl
family_of Lbl = ProgramControl
family_of Mcr = ProgramControl
family_of Afi = Bit
family_of Nop = ProgramControl
family_of Uid = ProgramControl
family_of Uie = ProgramControl
family_of Event = ProgramControl
