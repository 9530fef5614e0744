-- When operands are such as the table of operands wants them, as far as an instruction rests on it: what is written, counted
-- in, filled, called or triggered is of its kind. Both before and after the operands' places are worked out.
use Rattle.std.specs.Prelude.{◌≡◌, ℕ, ◌+◌, ◌⊎◌, IsTrue, List, [], ◌∷◌, length, slice_index_or, ℤ, Option, Some, None, is_some}
use Rattle.lgx_num.specs.declared.place.Operand.{Operand}
use Rattle.lgx_num.specs.declared.place.Operand.TheVariants as operand
use Rattle.lgx_rung.specs.declared.op.Op.{Op}
use Rattle.lgx_rung.specs.declared.operands.OperandKind.{OperandKind}
use Rattle.lgx_rung.specs.declared.operands.OperandKind.TheVariants.{BoolPlace, IntegerPlace, WholeTimer, WholeCounter, TimerOrCounter, FillTarget, RoutineName, ParameterCount, EventTask}
use Rattle.lgx_rung.specs.OperandTable.{as_count, fixed_kinds, operand_kinds}
use Rattle.spec_scan.specs.declared.bound.Arg.{Arg}
use Rattle.spec_scan.specs.declared.bound.Arg.TheVariants as bound
use Rattle.spec_scan.specs.Arguments.{arg}

-- the bytes of an element that a fill stores: a SINT, an INT or a DINT
abbrev pub IsFillSize : ℕ → Type 0
IsFillSize size = (size ≡ 1) ⊎ ((size ≡ 2) ⊎ (size ≡ 4))

-- ---- operands

abbrev pub operand_at : List Operand → ℕ → Operand
operand_at operands i = slice_index_or operands i operand.Blank

abbrev pub IsCell : Operand → Type 0
IsCell (operand.Cell path) = Unit {0}
IsCell _ = ⊥

abbrev pub IsTimer : Operand → Type 0
IsTimer (operand.Timer path) = Unit {0}
IsTimer _ = ⊥

abbrev pub IsCounter : Operand → Type 0
IsCounter (operand.Counter path) = Unit {0}
IsCounter _ = ⊥

-- a block whose element is an integer
abbrev pub IsIntegers : Operand → Type 0
IsIntegers (operand.Block b) = IsFillSize b.size
IsIntegers _ = ⊥

abbrev pub IsRoutine : Operand → Type 0
IsRoutine (operand.Routine n) = Unit {0}
IsRoutine _ = ⊥

-- the number of a call's inputs
abbrev pub IsCount : Operand → Type 0
IsCount (operand.Number n) = IsTrue (is_some (as_count n))
IsCount _ = ⊥

abbrev pub IsTask : Operand → Type 0
IsTask (operand.Task n) = Unit {0}
IsTask _ = ⊥

abbrev pub Fits : OperandKind → Operand → Type 0
Fits BoolPlace o = IsCell o
Fits IntegerPlace o = IsCell o
Fits WholeTimer o = IsTimer o
Fits WholeCounter o = IsCounter o
Fits TimerOrCounter o = IsTimer o ⊎ IsCounter o
Fits FillTarget o = IsIntegers o
Fits RoutineName o = IsRoutine o
Fits ParameterCount o = IsCount o
Fits EventTask o = IsTask o
Fits _ o = Unit {0}

-- each operand is of the kind beside it, and there is none without a kind and no kind without an operand
abbrev pub AllFit : List OperandKind → List Operand → Type 0
AllFit [] [] = Unit {0}
AllFit [] (o ∷ os) = ⊥
AllFit (kind ∷ kinds) [] = ⊥
AllFit (kind ∷ kinds) (o ∷ os) = Fits kind o × AllFit kinds os

abbrev pub FitSome : Option (List OperandKind) → List Operand → Type 0
FitSome None operands = ⊥
FitSome (Some kinds) operands = AllFit kinds operands

-- the number that an operand is, if it is one
abbrev pub number_told : Operand → Option ℤ
number_told (operand.Number n) = Some n
number_told _ = None

-- there are as many operands as the mnemonic wants, each of the kind that it wants
abbrev pub OperandsFit : Op → List Operand → Type 0
OperandsFit op operands = FitSome (operand_kinds op (number_told (operand_at operands 1)) (length operands)) operands

-- ---- operands with their places worked out

abbrev pub IsPlace : Arg → Type 0
IsPlace (bound.Cell place) = Unit {0}
IsPlace _ = ⊥

abbrev pub IsTimerPlace : Arg → Type 0
IsTimerPlace (bound.Timer at) = Unit {0}
IsTimerPlace _ = ⊥

abbrev pub IsCounterPlace : Arg → Type 0
IsCounterPlace (bound.Counter at) = Unit {0}
IsCounterPlace _ = ⊥

abbrev pub AreIntegers : Arg → Type 0
AreIntegers (bound.Block at size stop) = IsFillSize size
AreIntegers _ = ⊥

-- what names a routine or a task has no place
abbrev pub ArgFits : OperandKind → Arg → Type 0
ArgFits BoolPlace a = IsPlace a
ArgFits IntegerPlace a = IsPlace a
ArgFits WholeTimer a = IsTimerPlace a
ArgFits WholeCounter a = IsCounterPlace a
ArgFits TimerOrCounter a = IsTimerPlace a ⊎ IsCounterPlace a
ArgFits FillTarget a = AreIntegers a
ArgFits _ a = Unit {0}

abbrev pub ArgsFitFrom : ℕ → List OperandKind → List Arg → Type 0
ArgsFitFrom i [] args = Unit {0}
ArgsFitFrom i (kind ∷ kinds) args = ArgFits kind (arg args i) × ArgsFitFrom (i + 1) kinds args

-- the operands that an instruction always has are of their kinds
abbrev pub ArgsFit : Op → List Arg → Type 0
ArgsFit op args = ArgsFitFrom 0 (fixed_kinds op) args
